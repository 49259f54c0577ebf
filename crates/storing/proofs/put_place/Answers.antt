use mathlib.Core.Path.{refl}
use native.Mathlib.Omega.{arith}
use lib.ListN.{length-set}
use Rattle.storage.specs.Storage.{place_numbers, place_marks}
use Rattle.storing.proofs.put_place.Goals as goal

pub bounds-numbers-1 : goal.bounds-numbers-1
unfolding place_numbers place_marks
bounds-numbers-1 c = simp length-set (omega arith)

pub bounds-marks-1 : goal.bounds-marks-1
unfolding place_numbers place_marks
bounds-marks-1 c = simp length-set (omega arith)

pub returns : goal.returns
unfolding place_numbers place_marks
returns c = record { numbers_after = refl; marks_after = simp c.side_mark.ensures }
