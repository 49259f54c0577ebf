use mathlib.Core.Path.{refl, sym, ◌∙◌}
use native.Mathlib.Omega.{arith}
use Rattle.text.proofs.Pieces.{none}
use Rattle.text.proofs.Signed.{steady}
use Rattle.ephemeris_answers.proofs.put_at.Goals as goal

pub returns-in-Some : goal.returns-in-Some
returns-in-Some c =
    rw (sym c.since.ensures ∙ c.in-Some.is) (rw (steady c.in-Some.time.0 (record { sfits = omega (arith, c.struct_told-1.given) })) at c.put_answer.ensures)

pub returns-in-None : goal.returns-in-None
returns-in-None c =
    rw (sym c.since.ensures ∙ c.in-None.is)
    record { put = none (omega arith) (omega arith); numbers = refl; marks = refl }
