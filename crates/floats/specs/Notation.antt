-- Document 01, "Numbers the model rests on": "All arithmetic is f64, one rounding per operation". A circle marks an operation that rounds once.
-- With it the decimals of the papers and the three values of pi. Definitions only.
use Rattle.std.specs.Prelude.{ℕ, ◌^◌, Bool, true, false, Float}
use Rattle.std.specs.Float.{nan, inf, fin, binary64}
use Rattle.std.specs.Float.Ieee.{add, sub, mul, div, round}

abbrev pub ◌⊕◌ : Float → Float → Float
x ⊕ y = add binary64 x y

abbrev pub ◌⊖◌ : Float → Float → Float
x ⊖ y = sub binary64 x y

abbrev pub ◌⊗◌ : Float → Float → Float
x ⊗ y = mul binary64 x y

abbrev pub ◌⊘◌ : Float → Float → Float
x ⊘ y = div binary64 x y

infixl 7 ◌⊗◌
infixl 7 ◌⊘◌
infixl 6 ◌⊕◌
infixl 6 ◌⊖◌
-- the decimal m / 10 ^ k, rounded once: `dec 119459 10` is 1.19459E-5
abbrev pub dec : ℕ → ℕ → Float
dec m k = round binary64 false m (10 ^ k)

-- "Pi is the nearest f64, two pi its double": `two_pi_doubles` and `half_pi_halves` of proofs/Theorems, and `pi_nearest`, that further digits change nothing
abbrev pub pi : Float
pi = dec 3141592653589793 15

abbrev pub two_pi : Float
two_pi = dec 6283185307179586 15

abbrev pub half_pi : Float
half_pi = dec 15707963267948966 16

-- neither an infinity nor a NaN
unfoldable pub finite : Float → Bool
finite nan = false
finite (inf s) = false
finite (fin s m e) = true
