-- The number of the profile's boundary. Definitions only.
use Rattle.std.specs.Prelude.{ℕ}

abbrev pub boundary : ℕ
boundary = 1
