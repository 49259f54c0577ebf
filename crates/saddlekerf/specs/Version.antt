-- The version of the library, 0.4.0. Definitions only.
use Rattle.std.specs.Prelude.{ℕ, ◌+◌, ◌*◌}

abbrev pub numbered : ℕ → ℕ → ℕ → ℕ
numbered major minor patch = 10000 * major + 100 * minor + patch

abbrev pub version : ℕ
version = numbered 0 4 0

-- the boundary's own number: it goes up with every change of a function's parameters, of an answer's bits or of a layout of lent memory
abbrev pub boundary : ℕ
boundary = 3
