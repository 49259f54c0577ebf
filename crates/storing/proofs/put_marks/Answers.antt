use native.Mathlib.Omega.{arith}
use lib.ListN.{length-set}
use Rattle.storing.proofs.put_marks.Goals as goal

pub returns : goal.returns
returns c = simp (c.high_half-high.ensures, c.low_half-low.ensures)

pub bounds-marks-3 : goal.bounds-marks-3
bounds-marks-3 c = simp length-set (omega arith)

pub bounds-marks-4 : goal.bounds-marks-4
bounds-marks-4 c = simp length-set (omega arith)

pub bounds-marks-5 : goal.bounds-marks-5
bounds-marks-5 c = simp length-set (omega arith)
