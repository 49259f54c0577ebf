-- What is claimed of the definitions themselves. proofs/Theorems proves each. Definitions only.
use Rattle.std.specs.Prelude.{◌≡◌, ℕ, ◌+◌, ◌-◌, ◌*◌, ◌%◌, ◌^◌, ◌≤◌, ◌<◌, Bool, ℤ, Float}
use Rattle.std.specs.Float.{fin}
use Rattle.std.specs.Float.Ieee.{up, down}
use Rattle.decimals.specs.Fixed.{units_of}

-- how far apart two numbers lie
abbrev pub apart : ℕ → ℕ → ℕ
apart a b = (a - b) + (b - a)

-- With |x| = num / den, how far k units of 10 ^ -p are from |x|, in units of 10 ^ -p / den
abbrev pub away : ℕ → ℤ → ℕ → ℕ → ℕ
away m e p k = apart (k * down e) (m * up e * 10 ^ p)

-- "Correctly rounded": what is printed is at most half a unit of the last place away from x.
abbrev pub HalfAUnit : Type 0
HalfAUnit = (p : ℕ) (s : Bool) (m : ℕ) (e : ℤ) → 2 * away m e p (units_of p (fin s m e)) ≤ down e

-- No decimal of so many places is nearer.
abbrev pub NoneNearer : Type 0
NoneNearer = (p : ℕ) (s : Bool) (m : ℕ) (e : ℤ) (k : ℕ) → away m e p (units_of p (fin s m e)) ≤ away m e p k

-- Where another is as near, the even one is printed.
abbrev pub TiesToEven : Type 0
TiesToEven =
    (p : ℕ) (s : Bool) (m : ℕ) (e : ℤ) (k : ℕ) → (k ≡ units_of p (fin s m e) → ⊥)
    → away m e p k ≡ away m e p (units_of p (fin s m e)) → units_of p (fin s m e) % 2 ≡ 0
