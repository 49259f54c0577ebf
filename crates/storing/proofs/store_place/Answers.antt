use mathlib.Core.Path.{refl, ◌∙◌}
use Rattle.storage.specs.Storage.{store_refusal, placed_numbers, placed_marks, place_numbers, place_marks}
use Rattle.storing.proofs.Rooms.{few_numbers, few_marks, enough, stays, written}
use Rattle.storing.proofs.Runs.{run_front}
use native.Mathlib.Omega.{arith}
use Rattle.storing.proofs.store_place.Goals as goal

pub returns-then-numbers-lt83 : goal.returns-then-numbers-lt83
unfolding store_refusal placed_numbers placed_marks
returns-then-numbers-lt83 c =
    let h = few_numbers _ _ c.if-numbers-lt83.true in record { value = stays _ 17 0 h; numbers_after = stays _ _ _ h; marks_after = stays _ _ _ h }

pub returns-then-marks-lt6 : goal.returns-then-marks-lt6
unfolding store_refusal placed_numbers placed_marks
returns-then-marks-lt6 c =
    let h = few_marks _ _ c.if-numbers-lt83.false c.if-marks-lt6.true in record { value = stays _ 17 0 h; numbers_after = stays _ _ _ h; marks_after = stays _ _ _ h }

pub returns : goal.returns
unfolding store_refusal placed_numbers placed_marks place_numbers place_marks
returns c =
    let p = c.before.before.before.before in
    let a = p.args in
    let h = enough _ _ p.if-numbers-lt83.false p.if-marks-lt6.false in record { value = written _ 17 0 0 h refl; numbers_after = written _ _ _ _ h (p.put_place.ensures.numbers_after ∙ run_front (place_numbers a.place) a.numbers.now 2 refl (omega arith)); marks_after = written _ _ _ _ h (p.put_place.ensures.marks_after ∙ run_front (place_marks a.place) a.marks.now 2 refl (omega arith)) }
