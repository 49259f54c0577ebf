-- An f64 as a decimal with a fixed number of places, correctly rounded. Definitions only.
-- A finite x is m * 2 ^ e, the fraction m * up e / down e, negative where its sign is true.
use Prim.Native.Nat.{ℕ, ◌*◌, ◌/◌, ◌%◌, ◌^◌, compare}
use Rattle.std.specs.Prelude.{Bool, cond, ◌&&◌, List, ◌∷◌, ◌++◌, leb, ltb, Float}
use Rattle.std.specs.Float.{nan, inf, fin}
use Rattle.std.specs.Float.Ieee.{up, down, nearest, neg, lt}
use Rattle.floats.specs.Notation.{dec}
use Rattle.text.specs.Output.{bytes, decimal, places}

-- the whole number nearest to a / c; of two that are as near, the even one
abbrev pub nearest_whole : ℕ → ℕ → ℕ
nearest_whole a c = nearest (a / c) (compare (a % c * 2) c)

-- the magnitude of x in units of 10 ^ -p, rounded to a whole number
unfoldable pub units_of : ℕ → Float → ℕ
units_of p nan = 0
units_of p (inf s) = 0
units_of p (fin s m e) = nearest_whole (m * up e * 10 ^ p) (down e)

-- 2 ^ 40, above 10 ^ 12: a number as large, an infinity or a NaN is not shown
abbrev pub limit : Float
limit = dec 1099511627776 0

unfoldable pub in_range : Float → Bool
in_range x = lt x limit && lt (neg limit) x

-- from one place to nine
unfoldable pub shown : ℕ → Float → Bool
shown p x = in_range x && leb 1 p && leb p 9

-- n units of 10 ^ -p: the whole part, a point, p places
unfoldable pub units_text : ℕ → ℕ → List ℕ
units_text p n = decimal (n / 10 ^ p) ++ (46 ∷ places 10 p n)

unfoldable pub signed_text : Bool → List ℕ → List ℕ
signed_text minus text = cond minus (45 ∷ text) text

-- a minus sign stands before what is below zero and does not round to zero
unfoldable pub fixed_text : ℕ → Float → List ℕ
fixed_text p x =
    let n = units_of p x in
    cond (shown p x) (signed_text (lt x (dec 0 0) && ltb 0 n) (units_text p n)) (bytes "*")
