-- 002's record has the Greenwich angle at the epoch, gsto, and refusal 8 asks whether it is finite: at every instant of the calendar it is. Proved in proofs/Angle.
use Rattle.std.specs.Prelude.{ℕ, ◌≡◌, true}
use Rattle.elementary.specs.Notation.{finite}
use Rattle.instant.specs.Calendar.{in_calendar}
use Rattle.instant.specs.Greenwich.{greenwich_of}

abbrev pub FiniteAngle : Type 0
FiniteAngle = (t : ℕ) → in_calendar t ≡ true → finite (greenwich_of t) ≡ true
