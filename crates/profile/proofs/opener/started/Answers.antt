use Rattle.opening.specs.Opening.{started}
use Rattle.profile.specs.Opening.{is_deep}
use Rattle.profile.proofs.opener.started.Goals as goal

pub returns : goal.returns
unfolding started is_deep
returns c = simp (c.above.ensures, c.initl-i.ensures)
