-- Numbers as text, and what a piece of text does to a lent buffer.
use Rattle.std.specs.Prelude.{ℕ, zero, suc, ◌+◌, ◌/◌, ◌%◌, ◌≤◌, min, ◌≡◌, List, [], ◌∷◌, ◌++◌, cond, ltb, leb, Float, ℤ, pos, negsuc, length, drop}
use Prim.Native.Char.{code}
use Prim.Native.String.{String}
use Rattle.std.specs.Float.Ieee.{to_bits}
use Rattle.std.specs.Float.{binary64}
use Rattle.std.proofs.lemmas.List.Edits.{sets}

-- the bytes of a label
abbrev pub bytes : String → List ℕ
bytes String.[] = []
bytes (String.◌∷◌ c s) = code c ∷ bytes s

-- the decimal digits of a number below 10 ^ w, without leading zeros
unfoldable pub spell : ℕ → ℕ → List ℕ
spell zero n = []
spell (suc w) n = cond (ltb n 10) ((48 + n) ∷ []) (spell w (n / 10) ++ ((48 + n % 10) ∷ []))

-- a u64 as text: every one is below 10 ^ 20
abbrev pub decimal : ℕ → List ℕ
decimal n = spell 20 n

-- an i64 as text
unfoldable pub signed : ℤ → List ℕ
signed (pos n) = decimal n
signed (negsuc n) = 45 ∷ decimal (suc n)

-- a digit below 16: 0 to 9, then a to f
unfoldable pub glyph : ℕ → ℕ
glyph d = cond (ltb d 10) (48 + d) (87 + d)

-- the last w places of a number in a base, with leading zeros
unfoldable pub places : ℕ → ℕ → ℕ → List ℕ
places base zero n = []
places base (suc w) n = places base w (n / base) ++ (glyph (n % base) ∷ [])

-- a float's bit pattern in sixteen hexadecimal digits; the one NaN of the logic has 7ff8000000000000
unfoldable pub pattern : Float → List ℕ
pattern x = places 16 16 (to_bits binary64 x)

-- a line: label, value, newline
unfoldable pub line : List ℕ → List ℕ → List ℕ
line label value = label ++ (value ++ (10 ∷ []))

-- the largest usize: at this count counting stops
abbrev pub most : ℕ
most = 18446744073709551615

-- A text put at a position of a buffer: what reaches past the buffer's end is not stored (`sets` stores nothing there),
-- and the position afterwards counts it all the same.
pub record Put (out : List ℕ) (at : ℕ) (text : List ℕ) (after : List ℕ) (next : ℕ) : Type 0 where
  pub room : length out ≤ most
  pub counted : next ≡ min (at + length text) most
  pub stored : after ≡ sets out at text

-- a text at the front of a buffer that has room for it, where what lies past it stays; else the buffer as it was
unfoldable pub fronted : List ℕ → List ℕ → List ℕ
fronted text out = cond (leb (length text) (length out)) (text ++ drop (length text) out) out
