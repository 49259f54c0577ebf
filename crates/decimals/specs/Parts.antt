-- For the contracts inside the crate alone. Definitions only.
use Rattle.std.specs.Prelude.{◌≡◌, ℕ, ◌+◌, ◌-◌, ◌*◌, ◌^◌, ◌≤◌, ◌<◌}
use Rattle.decimals.specs.Fixed.{nearest_whole}

-- m / 2 ^ (1075 - e) is whole + part / (2 ^ 32 * down)
pub record Parts (m e whole part down : ℕ) : Type 0 where
  pub equal : m * (4294967296 * down) ≡ (whole * (4294967296 * down) + part) * 2 ^ (1075 - e)
  pub few : whole < 9007199254740992
  pub short : part < 9007199254740992
  pub least : 1 ≤ down
  pub most : down ≤ 2251799813685248

-- n units as a whole part and places, with ten = 10 ^ p
pub record Units (n ten whole part : ℕ) : Type 0 where
  pub sum : whole * ten + part ≡ n
  pub below : part < ten
