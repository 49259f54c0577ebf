use mathlib.Core.Path.{refl}
use Rattle.award_text.specs.Text.{left_out}
use Rattle.award_text.proofs.left_out.Goals as goal

pub returns : goal.returns
unfolding left_out
returns c = refl
