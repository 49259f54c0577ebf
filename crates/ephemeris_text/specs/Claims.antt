-- What is claimed of the definitions themselves. proofs/Theorems proves each. Definitions only.
use Rattle.std.specs.Prelude.{ℕ, ◌≤◌, length, Result}
use Rattle.instant.specs.declared.Instant.{Instant}
use Rattle.instant.specs.declared.MoveRefusal.{MoveRefusal}
use Rattle.ephemeris_text.specs.declared.State.{State}
use Rattle.ephemeris_text.specs.Rows.{header_text, row_text}

-- No line is longer than 300 bytes: what a program keeps free for one is enough, and no row is left out.
abbrev pub RowFits : Type 0
RowFits = (sep : ℕ) (when : Result Instant MoveRefusal) (refusal : ℕ) (s : State) (strides : ℕ) → length (row_text sep when refusal s strides) ≤ 300

abbrev pub HeaderFits : Type 0
HeaderFits = (sep : ℕ) → length (header_text sep) ≤ 300
