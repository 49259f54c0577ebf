use mathlib.Core.Path.{sym, ap, ◌∙◌, subst}
use Prim.Native.Nat.{ℕ}
use native.Mathlib.Omega.{arith}
use Rattle.answers.specs.Answer.{answer}
use Rattle.lent_changes.specs.Answer.{compared_answer, WrittenFits}
use Rattle.lent_changes.proofs.compared_answer.Goals as goal

pub overflow_cast-n : goal.overflow_cast-n
overflow_cast-n c = let h = subst WrittenFits c.in-Ok.is c.requires in omega (arith, h)

pub returns-in-Ok : goal.returns-in-Ok
unfolding compared_answer
returns-in-Ok c = c.answer.ensures ∙ sym (ap compared_answer c.in-Ok.is)
