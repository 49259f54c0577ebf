-- For the contracts inside the crate alone. Definitions only.
use Rattle.std.specs.Prelude.{ℕ, ◌/◌, ◌^◌}

-- n in units of 2 ^ 107, cut to a whole number: what the code has of a cube. 8 * N is a whole number of them, m * 2 ^ r.
unfoldable pub cut : ℕ → ℕ
cut n = n / 2 ^ 107
