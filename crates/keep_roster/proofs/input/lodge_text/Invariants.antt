use mathlib.Core.Path.{◌≡◌}
use mathlib.Core.Bool.{true}
use Rattle.keep_roster.proofs.input.lodge_text.Given as goal

abbrev pub invariant-loop : goal.invariant-loop
invariant-loop l = l.initial.failed ≡ true → l.failed ≡ true
