use Rattle.std.proofs.Common.{◌≡◌, true}
use Rattle.printing.proofs.print_rows.Given as goal

abbrev pub invariant-loop-refusal : goal.invariant-loop-refusal
invariant-loop-refusal l = l.initial.failed ≡ true → l.failed ≡ true
