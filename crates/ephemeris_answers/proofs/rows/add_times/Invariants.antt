use mathlib.Core.Path.{◌≡◌}
use mathlib.Core.Bool.{true}
use lib.ListN.{length}
use Rattle.ephemeris_answers.proofs.rows.add_times.Given as goal

abbrev pub invariant-loop-time : goal.invariant-loop-time
invariant-loop-time l = (length l.room ≡ length l.initial.room) × (l.initial.failed ≡ true → l.failed ≡ true)
