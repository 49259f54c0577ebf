-- Refusal 9 is the one that leaves the saved position: no row of a time in range has it.
use mathlib.Core.Path.{◌≡◌, refl, sym, subst}
use mathlib.Core.Bool.{Bool, true, false}
use lib.Dec.{eqb}
use lib.IntN.{ℤ}
use Rattle.instant.specs.Quantity.{minutes_of}
use Rattle.satellite.specs.declared.Model.{Model}
use Rattle.state.specs.declared.answer.Refusal.TheVariants as refusals
use Rattle.std.specs.Prelude.{Err, Ok, Result, ℕ}
use Rattle.state.specs.declared.answer.State.{State}
use Rattle.state.specs.declared.answer.Refusal.{Refusal}
use Rattle.state.specs.Answer.{number}
use Rattle.resonance.specs.declared.place.Place.{Place}
use Rattle.resonance.specs.Time.{in_range}
use Rattle.sgp4.specs.Row.{refused_row, row_of}
use Rattle.sgp4.specs.Kept.{state_from, row_from}
use Rattle.requests.specs.Request.{reached, choose, inside, outside, asked}

other : (a : Result (State × ℕ) Refusal) → eqb (row_of a).refusal 9 ≡ false
unfolding row_of refused_row number
other (Ok (s, k)) = refl
other (Err refusals.MeanMotion) = refl
other (Err refusals.MeanElements) = refl
other (Err refusals.Eccentricity) = refl
other (Err refusals.SemiLatusRectum) = refl
other (Err refusals.Decayed) = refl
other (Err refusals.NotFinite) = refl

by_range : (b : Bool) (k : Model) (p : Place) (t : ℤ) (P : Bool → Place → Type 0) → P true p → P false (choose b (inside k p t) (outside p)).place
    → P (eqb (choose b (inside k p t) (outside p)).row.refusal 9) (choose b (inside k p t) (outside p)).place
unfolding row_from refused_row
by_range true k p t P x y = subst (λ (b : Bool). P b (reached k p t).place) (sym (other (state_from k (reached k p t).place (record { 0 = minutes_of t })))) y
by_range false k p t P x y = x

-- what holds of refusal 9 with the position as it was, and of any other answer with the position reached, holds of every answer
pub nine_or_not : (k : Model) (p : Place) (t : ℤ) (P : Bool → Place → Type 0) → P true p → P false (asked k p t).place → P (eqb (asked k p t).row.refusal 9) (asked k p t).place
unfolding asked
nine_or_not k p t P x y = by_range (in_range t) k p t P x y
