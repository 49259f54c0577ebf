-- What is claimed of the definitions themselves. proofs/Theorems proves each for every f64 that it is about. Definitions only.
-- `HasValue x s a c` says that x is finite, has the sign s (true is minus) and is exactly a / c in size.
use Rattle.std.specs.Prelude.{ℕ, ◌+◌, ◌-◌, ◌*◌, ◌^◌, ◌≤◌, ◌<◌, false, Float}
use Rattle.std.specs.Float.Ieee.Exact.{HasValue}

-- r is the f64 nearest to the square root of x. With u = 2 ^ j / 2 ^ 590 one step between neighbours at r, r is q * u for a q of 53 binary digits, x is N * u * u,
-- and N lies strictly between the squares of q - 1/2 and q + 1/2: no tie exists.
pub record NearestRoot (x r : Float) : Type 0 where
  pub N : ℕ
  pub q : ℕ
  pub j : ℕ
  pub number : HasValue x false (N * 4 ^ j) (2 ^ 1180)
  pub root : HasValue r false (q * 2 ^ j) (2 ^ 590)
  pub long : 2 ^ 52 ≤ q
  pub short : q < 2 ^ 53
  pub above : (2 * q - 1) * (2 * q - 1) < 4 * N
  pub below : 4 * N < (2 * q + 1) * (2 * q + 1)
