-- What is claimed of the definitions themselves. proofs/Theorems proves each. Definitions only.
-- `HasValue x s a c` says that x is finite, has the sign s (true is minus) and is exactly a / c in size.
use Rattle.std.specs.Prelude.{◌≡◌, ℕ, ◌+◌, ◌-◌, ◌*◌, ◌^◌, ◌≤◌, ◌<◌, true, false, T, Float}
use Rattle.std.specs.Float.{nan, binary64}
use Rattle.std.specs.Float.Ieee.{fits}
use Rattle.std.specs.Float.Ieee.Exact.{HasValue}
use Rattle.std.specs.Float.Ieee.Positive.{positive}
use Rattle.cube_root.specs.Cube.{cube, normal, cbrt_of}

-- r is the f64 nearest to the cube root of x. With u = 2 ^ j / 2 ^ 393 one step between neighbours below r, r is q * u for a q of 53 binary digits or for q = 2 ^ 53,
-- x is N * u * u * u, and N lies strictly between the cubes of q - 1/2 and q + 1/2: no tie exists. Below 2 ^ 52 the steps are shorter: N does not lie there.
pub record NearestCubeRoot (x r : Float) : Type 0 where
  pub N : ℕ
  pub q : ℕ
  pub j : ℕ
  pub whole : 2 ^ 156 ≤ N
  pub number : HasValue x false (N * 8 ^ j) (2 ^ 1179)
  pub root : HasValue r false (q * 2 ^ j) (2 ^ 393)
  pub long : 2 ^ 52 ≤ q
  pub short : q ≤ 2 ^ 53
  pub above : cube (2 * q - 1) < 8 * N
  pub below : 8 * N < cube (2 * q + 1)

-- Every positive normal f64 has such a root.
abbrev pub IsNearest : Type 0
IsNearest = (x : Float) → T (fits binary64 x) → normal x ≡ true → NearestCubeRoot x (cbrt_of x)

-- ---- The same against every other f64, with no word about digits: a positive normal x of n units of 2 ^ -1074, its root of R, and any positive y of p.
pub record Against (x y : Float) (n R p : ℕ) : Type 0 where
  pub held : T (fits binary64 x)
  pub is_normal : normal x ≡ true
  pub held_too : T (fits binary64 y)
  pub is_positive : T (positive y)
  pub number : HasValue x false n (2 ^ 1074)
  pub root : HasValue (cbrt_of x) false R (2 ^ 1074)
  pub other : HasValue y false p (2 ^ 1074)

-- Where y is not the root, the number halfway between the two, (R + p) / 2 ^ 1075, is on y's side of the exact root: so the root is nearer to it than y.
abbrev pub Nearer : ℕ → ℕ → ℕ → Type 0
Nearer n R p = (R < p → n * 2 ^ 2151 < cube (R + p)) × (p < R → cube (R + p) < n * 2 ^ 2151)

-- the same where the exact root may be the number halfway: y is no nearer
abbrev pub NoFarther : ℕ → ℕ → ℕ → Type 0
NoFarther n R p = (R < p → n * 2 ^ 2151 ≤ cube (R + p)) × (p < R → cube (R + p) ≤ n * 2 ^ 2151)

abbrev pub NoneAsNear : Type 0
NoneAsNear = (x y : Float) (n R p : ℕ) → Against x y n R p → Nearer n R p

-- What is as near as the root is the root.
abbrev pub OneNearest : Type 0
OneNearest = (x y : Float) (n R p : ℕ) → Against x y n R p → NoFarther n p R → y ≡ cbrt_of x

-- "A tie cannot occur": no whole number is the cube of a whole number and a half.
abbrev pub NoTie : Type 0
NoTie = (N q : ℕ) → 8 * N ≡ cube (2 * q + 1) → ⊥

-- The root of y * y * y, where that is an f64, is y.
abbrev pub CubesExact : Type 0
CubesExact = (x y : Float) (n p : ℕ) → T (fits binary64 x) → normal x ≡ true → T (fits binary64 y) → T (positive y)
    → HasValue x false n (2 ^ 1074) → HasValue y false p (2 ^ 1074) → cube p ≡ n * 2 ^ 2148 → cbrt_of x ≡ y

-- "Other inputs still give NaN."
abbrev pub OthersNan : Type 0
OthersNan = (x : Float) → normal x ≡ false → cbrt_of x ≡ nan
