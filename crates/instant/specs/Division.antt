-- What a long division of n by d has found, once the quotient has k more binary digits: the private state of `divide`. Definitions only.
use Rattle.std.specs.Prelude.{◌≡◌, ℕ, ◌+◌, ◌*◌, ◌^◌, ◌≤◌, ◌<◌}

-- n * p = q * d + r, with p = 2 ^ k
pub record Divided (n d q r p k : ℕ) : Type 0 where
  pub sum : n * p ≡ q * d + r
  pub rest : r < d
  pub power : p ≡ 2 ^ k
  pub some : 1 ≤ p
  pub few : k ≤ p
  pub wide : 8 * p ≤ q
  pub short : q < 9007199254740992
