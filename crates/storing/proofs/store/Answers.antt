use mathlib.Core.Path.{refl, ◌∙◌}
use Rattle.storage.specs.Storage.{store_refusal, stored_numbers, stored_marks, numbers_of, marks_of, place_numbers, place_marks, model_numbers, model_marks}
use Rattle.storing.proofs.Rooms.{few_numbers, few_marks, enough, stays, written, length_numbers, length_marks}
use Rattle.storing.proofs.Runs.{run_next, run_front}
use native.Mathlib.Omega.{arith}
use Rattle.storing.proofs.store.Goals as goal

pub returns-then-numbers-lt83 : goal.returns-then-numbers-lt83
unfolding store_refusal stored_numbers stored_marks
returns-then-numbers-lt83 c =
    let h = few_numbers _ _ c.if-numbers-lt83.true in record { value = stays _ 17 0 h; numbers_after = stays _ _ _ h; marks_after = stays _ _ _ h }

pub returns-then-marks-lt6 : goal.returns-then-marks-lt6
unfolding store_refusal stored_numbers stored_marks
returns-then-marks-lt6 c =
    let h = few_marks _ _ c.if-numbers-lt83.false c.if-marks-lt6.true in record { value = stays _ 17 0 h; numbers_after = stays _ _ _ h; marks_after = stays _ _ _ h }

pub returns : goal.returns
unfolding store_refusal stored_numbers stored_marks numbers_of marks_of place_numbers place_marks model_marks
returns c =
    let p = c.before.before.before.before.before.before.before in
    let a = p.args in
    let s = a.s in
    let h = enough _ _ p.if-numbers-lt83.false p.if-marks-lt6.false in
    let ns = run_next a.numbers.now _ _ _ (place_numbers s.place) (model_numbers s.model) 0 2 p.put_place.ensures.numbers_after refl c.put_model.ensures.numbers_after refl in
    let ms = run_next a.marks.now _ _ _ (place_marks s.place) (model_marks s.model) 0 2 p.put_place.ensures.marks_after refl c.put_model.ensures.marks_after refl in record { value = written _ 17 0 0 h refl; numbers_after = written _ _ _ _ h (ns ∙ run_front (numbers_of s) a.numbers.now 83 (length_numbers s) (omega arith)); marks_after = written _ _ _ _ h (ms ∙ run_front (marks_of s) a.marks.now 6 (length_marks s) (omega arith)) }
