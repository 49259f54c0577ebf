-- Document 01, "The two lines": what may stand in each column. A layout is a text with one letter for each column, its class:
--   blank . 1 2   that byte itself        D  a digit
--   S  a sign: blank, + or -              E  the sign of an exponent: + or -        C  U, C or S
--   N  the first place of a catalogue number: a digit, or a letter but I and O (document 02, wish 1)
--   R  the first place of a right-set number, or of the designator: a blank or a digit
--   r  a later leading place of a right-set number: a digit, or a blank after a blank
--   f  a later digit of the designator: a digit, or after a blank a blank
--   L  the first letter of the designator: a letter, or after a blank a blank
--   l  a later letter of the designator: a blank, or after another byte a letter
use Rattle.std.specs.Prelude.{ℕ, suc, ◌≡◌, List, [], ◌∷◌, Bool, cond, true, not, ◌&&◌, ◌||◌, ltb, leb, eqb, length}
use Prim.Native.Char.{code}
use Rattle.text.specs.Output.{bytes}

abbrev pub layout1 : List ℕ
layout1 = bytes "1 NDDDDC RffffLll DDDDD.DDDDDDDD S.DDDDDDDD SDDDDDED SDDDDDED D RrrDD"

abbrev pub layout2 : List ℕ
layout2 = bytes "2 NDDDD RrD.DDDD RrD.DDDD DDDDDDD RrD.DDDD RrD.DDDD RD.DDDDDDDDRrrrDD"

abbrev pub is_blank : ℕ → Bool
is_blank b = eqb b (code " ")

abbrev pub is_digit : ℕ → Bool
is_digit b = leb (code "0") b && leb b (code "9")

abbrev pub is_letter : ℕ → Bool
is_letter b = leb (code "A") b && leb b (code "Z")

-- a digit, or a letter A-Z without I and O
abbrev pub opens_number : ℕ → Bool
opens_number b = is_digit b || is_letter b && not (eqb b (code "I")) && not (eqb b (code "O"))

-- b may stand in a column of a class but N; after: the byte before it is a blank
abbrev pub fits_plain : ℕ → Bool → ℕ → Bool
fits_plain class after b =
    eqb class b && ltb class (code "A")
    || eqb class (code "D") && is_digit b
    || eqb class (code "R") && (is_blank b || is_digit b)
    || eqb class (code "r") && (is_digit b || is_blank b && after)
    || eqb class (code "L") && (is_blank b && after || not after && is_letter b)
    || eqb class (code "l") && (is_blank b || not after && is_letter b)
    || eqb class (code "f") && (is_blank b && after || not after && is_digit b)
    || eqb class (code "S") && (is_blank b || eqb b (code "+") || eqb b (code "-"))
    || eqb class (code "E") && (eqb b (code "+") || eqb b (code "-"))
    || eqb class (code "C") && (eqb b (code "U") || eqb b (code "C") || eqb b (code "S"))

-- b may stand in a column of any class
abbrev pub fits : ℕ → Bool → ℕ → Bool
fits class after b = fits_plain class after b || eqb class (code "N") && opens_number b

-- how many columns, from the first, agree with the layout
unfoldable pub agreed : List ℕ → Bool → List ℕ → ℕ
agreed [] after bs = 0
agreed (c ∷ cs) after [] = 0
agreed (c ∷ cs) after (b ∷ bs) = cond (fits c after b) (suc (agreed cs (is_blank b) bs)) 0

-- a line is lawful when it keeps the layout in every column
abbrev pub Lawful : List ℕ → List ℕ → Type 0
Lawful layout line = (length line ≡ length layout) × (agreed layout true line ≡ length layout)
