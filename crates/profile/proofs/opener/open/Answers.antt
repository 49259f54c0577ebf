use mathlib.Core.Path.{sym, ◌∙◌}
use Rattle.opening.specs.Opening as F
use Rattle.profile.specs.Opening.{open_of, narrow}
use Rattle.profile.proofs.Narrow.{read_opens}
use Rattle.profile.proofs.opener.open.Goals as goal

pub returns-then-legal : goal.returns-then-legal
returns-then-legal c = c.open_read.ensures ∙ read_opens _ (sym c.legal.ensures ∙ c.if-legal.true)

pub returns : goal.returns
unfolding open_of F.open_of narrow
returns c = simp (← c.legal.ensures, c.if-legal.false)
