use Rattle.std.proofs.Common.{length, ◌-◌, ◌≡◌, ◌≤◌, true}
use Rattle.streams.proofs.read_all_from.Given as goal

abbrev pub invariant-loop-n : goal.invariant-loop-n
invariant-loop-n g l =
    (l.n ≤ length l.space) × (length l.space ≡ length l.initial.space) × (l.initial.failed ≡ true → (l.failed ≡ true) × (l.n ≡ 0) × (l.space ≡ l.initial.space))

abbrev pub decreases-loop-n : goal.decreases-loop-n
decreases-loop-n g l = length l.space - l.n
