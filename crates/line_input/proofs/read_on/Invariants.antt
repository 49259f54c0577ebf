use Rattle.std.proofs.Common.{length, ◌≡◌, false}
use Rattle.line_input.proofs.Reading.{Gone}
use Rattle.line_input.proofs.read_on.Given as goal

abbrev pub invariant-loop : goal.invariant-loop
invariant-loop l =
    (length l.buffer ≡ length l.initial.buffer) × (length l.line ≡ length l.initial.line) × (l.failed ≡ false) × Gone l.initial.line l.initial.size l.line l.size
