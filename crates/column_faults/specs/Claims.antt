-- What is claimed of the sums that are told. Proved in proofs/Sums.antt.
use Rattle.std.specs.Prelude.{ℕ, ◌+◌, ◌≡◌, List}
use Rattle.columns.specs.Sum.{sum}
use Rattle.column_faults.specs.Sums.{digit_sum, minuses}

-- the two sums together are the sum under the checksum
abbrev pub SumsAdd : Type 0
SumsAdd = (s : List ℕ) → digit_sum s + minuses s ≡ sum s
