use native.Mathlib.Omega.{arith}
use Rattle.answers.specs.Answer.{answer}
use Rattle.saddlekerf_profile.proofs.lent.opening_answer.Goals as goal

pub returns : goal.returns
unfolding answer
returns c = omega (arith, c.number.ensures)
