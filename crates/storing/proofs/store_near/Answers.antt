use mathlib.Core.Path.{◌≡◌, refl, ap, ◌∙◌}
use mathlib.Core.List.{◌∷◌, ◌++◌}
use native.Mathlib.Omega.{arith}
use lib.ListN.{length, take, drop}
use lib.Ieee.{round, units, odd, size, span, climb, of_bits, neg}
use lib.Count.{count_trailing_zeros}
use Rattle.instant.specs.declared.Instant.{Instant}
use Rattle.satellite.specs.declared.NearEarth.{NearEarth}
use Rattle.opening.specs.Opening.{newly, epoch_place}
use Rattle.storage.specs.Storage.{place_numbers, place_marks, model_numbers, near_numbers, numbers_of, model_marks, marks_of, isimp_mark, epoch_marks}
use Rattle.storage.specs.Near.{near_refusal, near_stored_numbers, near_stored_marks, near_satellite}
use Rattle.storage.proofs.Short.{few_numbers, few_marks, enough}
use Rattle.storing.proofs.Rooms.{stays, written}
use Rattle.storing.proofs.Runs.{run_next, run_front}
use Rattle.storing.proofs.store_near.Goals as goal

first : (n : NearEarth) (t : Instant) → place_numbers (near_satellite n t).place ++ near_numbers n ≡ take 36 (numbers_of (near_satellite n t))
unfolding numbers_of place_numbers model_numbers near_numbers newly
first n t = refl

thirty-six : (n : NearEarth) (t : Instant) → length (place_numbers (near_satellite n t).place ++ near_numbers n) ≡ 36
unfolding place_numbers near_numbers
thirty-six n t = refl

pub returns-then-numbers-lt36 : goal.returns-then-numbers-lt36
unfolding near_refusal near_stored_numbers near_stored_marks
returns-then-numbers-lt36 c =
    let h = few_numbers _ _ c.if-numbers-lt36.true in record { value = stays _ 17 0 h; numbers_after = stays _ _ _ h; marks_after = stays _ _ _ h }

pub returns-then-marks-lt6 : goal.returns-then-marks-lt6
unfolding near_refusal near_stored_numbers near_stored_marks
returns-then-marks-lt6 c =
    let h = few_marks _ _ c.if-numbers-lt36.false c.if-marks-lt6.true in record { value = stays _ 17 0 h; numbers_after = stays _ _ _ h; marks_after = stays _ _ _ h }

pub returns : goal.returns
unfolding near_refusal near_stored_numbers near_stored_marks newly epoch_place place_numbers place_marks marks_of model_marks round units odd size span climb count_trailing_zeros of_bits neg
returns c =
    let p = c.before.before.before.before.before.before in
    let a = p.args in
    let s = near_satellite a.near a.epoch in
    let h = enough _ _ p.if-numbers-lt36.false p.if-marks-lt6.false in
    let ns = run_next a.numbers.now _ _ _ (place_numbers s.place) (near_numbers a.near) 0 2 p.put_place.ensures.numbers_after refl c.put_near.ensures refl in
    let ms = run_next a.marks.now _ _ _ (place_marks s.place) (isimp_mark a.near.isimp ∷ 0 ∷ epoch_marks a.epoch) 0 2 p.put_place.ensures.marks_after refl c.put_marks.ensures refl in record {
      value = written _ 17 0 0 h refl;
      numbers_after = written _ _ _ _ h
          (ns ∙ run_front (place_numbers s.place ++ near_numbers a.near) a.numbers.now 36 (thirty-six a.near a.epoch) (omega arith) ∙ ap (λ v. v ++ drop 36 a.numbers.now) (first a.near a.epoch));
      marks_after = written _ _ _ _ h (ms ∙ run_front (marks_of s) a.marks.now 6 refl (omega arith));
    }
