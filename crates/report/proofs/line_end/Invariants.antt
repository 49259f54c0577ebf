use Rattle.std.proofs.Common.{◌≡◌, ◌+◌, length, drop}
use Rattle.text.specs.Input.{line_of}
use Rattle.report.proofs.line_end.Given as goal

abbrev pub invariant-loop-i : goal.invariant-loop-i
invariant-loop-i l = l.i + length (line_of (drop l.i l.piece)) ≡ l.from + length (line_of (drop l.from l.piece))
