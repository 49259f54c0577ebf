use mathlib.Core.Path.{refl}
use Rattle.answers.specs.Answer.{answer}
use Rattle.answers.proofs.answer.Goals as goal

pub returns : goal.returns
unfolding answer
returns c = refl
