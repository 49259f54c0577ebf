-- Document 01, "The two lines": how the fields are written.
use Rattle.std.specs.Prelude.{ℕ, zero, suc, ◌+◌, ◌/◌, ◌%◌, ◌^◌, List, [], ◌∷◌, ◌++◌, cond, eqb, ℤ, pos, negsuc, nat_abs, get_or}
use Prim.Native.Char.{code}
use Rattle.text.specs.Output.{bytes}
use Rattle.columns.specs.FirstPlace.{first_places}
use Rattle.tle.specs.declared.Designator.{Designator}
use Rattle.tle.specs.declared.Designator.TheVariants.{Blank, Piece}
use Rattle.tle.specs.declared.Scaled.{Scaled}

-- the byte of a number's last place; z stands for a leading zero
unfoldable pub place : ℕ → ℕ → ℕ
place z n = cond (eqb n 0) z (code "0" + n % 10)

-- the last w places of a number
unfoldable pub lead : ℕ → ℕ → ℕ → List ℕ
lead z zero n = []
lead z (suc w) n = lead z w (n / 10) ++ (place z n ∷ [])

-- w digits
abbrev pub digits : ℕ → ℕ → List ℕ
digits w n = lead (code "0") w n

-- a catalogue number: a digit or the letter that stands for 10 to 33, and four digits
abbrev pub number_places : ℕ → List ℕ
number_places n = (get_or first_places (n / 10 ^ 4) 0 ∷ []) ++ digits 4 (n % 10 ^ 4)

-- right-set in w + 1 places: blanks for leading zeros, and a digit in the last place
abbrev pub right : ℕ → ℕ → List ℕ
right w n = lead (code " ") w (n / 10) ++ digits 1 (n % 10)

-- right-set in w + 1 places before the point, and p digits after it
abbrev pub pointed : ℕ → ℕ → ℕ → List ℕ
pointed w p n = right w (n / 10 ^ p) ++ bytes "." ++ digits p (n % 10 ^ p)

-- `ddd.dddddddd`, digits throughout
abbrev pub day_places : ℕ → List ℕ
day_places n = digits 3 (n / 10 ^ 8) ++ bytes "." ++ digits 8 (n % 10 ^ 8)

-- a blank for plus in front of a number
unfoldable pub sign : ℤ → ℕ
sign (pos n) = code " "
sign (negsuc n) = code "-"

-- sign, point, eight digits
abbrev pub fraction : ℤ → List ℕ
fraction x = (sign x ∷ []) ++ bytes "." ++ digits 8 (nat_abs x)

-- `-0` for exponent 0
unfoldable pub exponent_sign : ℤ → ℕ
exponent_sign (pos zero) = code "-"
exponent_sign (pos (suc n)) = code "+"
exponent_sign (negsuc n) = code "-"

-- sign, five digits, `+` or `-`, one digit
abbrev pub scaled : Scaled → List ℕ
scaled s =
    (sign s.mantissa ∷ []) ++ digits 5 (nat_abs s.mantissa)
    ++ (exponent_sign s.exponent ∷ []) ++ digits 1 (nat_abs s.exponent)

-- eight blanks, or five digits and three places of letters or blanks
unfoldable pub designator : Designator → List ℕ
designator Blank = bytes "        "
designator (Piece launch a b c) = digits 5 launch ++ (a ∷ []) ++ (b ∷ []) ++ (c ∷ [])
