-- Document 01, "The two lines": the number in a field.
use Rattle.std.specs.Prelude.{ℕ, zero, suc, ◌+◌, ◌*◌, List, [], ◌∷◌, Bool, true, false, ℤ, pos, negsuc, take, drop}
use Rattle.columns.specs.Sum.{digit_of}

-- the whole number that the bytes show, after a: a blank in a leading place counts as a zero
unfoldable pub value_on : ℕ → List ℕ → ℕ
value_on a [] = a
value_on a (b ∷ bs) = value_on (a * 10 + digit_of b) bs

-- the whole number in the w columns after the first at
abbrev pub field : ℕ → ℕ → List ℕ → ℕ
field at w line = value_on 0 (take w (drop at line))

-- minus n
unfoldable pub minus : ℕ → ℤ
minus zero = pos zero
minus (suc n) = negsuc n

-- n under its sign: negative where the sign is a minus
unfoldable pub signed : Bool → ℕ → ℤ
signed true n = minus n
signed false n = pos n
