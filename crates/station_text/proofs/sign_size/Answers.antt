use mathlib.Core.Path.{sym, ◌∙◌}
use Rattle.station_text.specs.Words.{sign_size}
use borrow.Author.Rules.{rules}
use Rattle.station_text.proofs.sign_size.Goals as goal

pub returns-then-begins : goal.returns-then-begins
unfolding sign_size
returns-then-begins c = (simp (sym c.begins.ensures.0 ∙ c.if-begins.true), c.begins.ensures.1 c.if-begins.true)

pub returns : goal.returns
unfolding sign_size
returns c = (simp (sym c.begins.ensures.0 ∙ c.if-begins.false), search rules)
