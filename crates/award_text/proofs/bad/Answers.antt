use mathlib.Core.Path.{refl}
use Rattle.award_text.specs.Text.{unread}
use Rattle.award_text.proofs.bad.Goals as goal

pub returns : goal.returns
unfolding unread
returns c = refl
