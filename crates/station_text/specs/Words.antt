-- The lines of `station_windows`: three decimals, three whole numbers, one whole number; one blank between words. Definitions only.
use Rattle.std.specs.Prelude.{ℕ, suc, ◌+◌, ◌*◌, ◌-◌, List, [], ◌∷◌, Bool, true, false, cond, ◌&&◌, leb, ltb, eqb, length, take, drop, Err, None, Ok, Option, Result, Some}
use Rattle.std.specs.Float.Ieee.{neg}
use Rattle.std.proofs.lemmas.List.Edits.{sets}
use Rattle.text.specs.Output.{bytes}
use Rattle.request_line.specs.Request.{begun}
use Rattle.instant.specs.Quantity.{decimal_of}
use Rattle.instant.specs.declared.Instant.{Instant}
use Rattle.instant.specs.declared.MoveRefusal.{MoveRefusal}
use Rattle.instant.specs.declared.MoveRefusal.TheVariants as move_refusal
use Rattle.lent_instants.specs.Instants.{instant_of}
use Rattle.station_text.specs.declared.Whole.{Whole}
use Rattle.station_text.specs.declared.Decimal.{Decimal}
use Rattle.station_text.specs.declared.Station as ps
use Rattle.station_text.specs.declared.Station.TheVariants as station

-- ── words ──

-- where the first byte of its kind stands, or the end
unfoldable pub cut_at : ℕ → List ℕ → ℕ
cut_at mark [] = 0
cut_at mark (b ∷ bs) = cond (eqb b mark) 0 (suc (cut_at mark bs))

-- what stands behind an index
unfoldable pub behind : ℕ → List ℕ → List ℕ
behind n s = drop (n + 1) s

-- A line's first and second word, and all that is left for the third: with fewer than two blanks that is empty, with more it has a blank, and both are bad
abbrev pub rest : List ℕ → List ℕ
rest s = behind (cut_at 32 s) s

abbrev pub first : List ℕ → List ℕ
first s = take (cut_at 32 s) s

abbrev pub second : List ℕ → List ℕ
second s = first (rest s)

abbrev pub third : List ℕ → List ℕ
third s = rest (rest s)

-- ── whole numbers ──

-- 10 ^ 18 - 1
abbrev pub most_whole : ℕ
most_whole = 999999999999999999

abbrev pub bad : Whole
bad = record { good = false; value = 0 }

-- one digit more: what is above the most counts as the most
unfoldable pub pushed : ℕ → ℕ → ℕ
pushed v d = cond (ltb most_whole (v * 10 + d)) most_whole (v * 10 + d)

-- digits behind those of the value v
unfoldable pub digits_on : ℕ → List ℕ → Whole
digits_on v [] = record { good = true; value = v }
digits_on v (b ∷ bs) = cond (ltb b 48) bad (cond (ltb 57 b) bad (digits_on (pushed v (b - 48)) bs))

-- one or more digits
unfoldable pub whole_in : List ℕ → Whole
whole_in s = cond (eqb (length s) 0) bad (digits_on 0 s)

unfoldable pub number_of : List ℕ → Option ℕ
number_of line = cond (whole_in line).good (Some (whole_in line).value) None

-- ── the start ──

abbrev pub start_at : Result Instant MoveRefusal → Option Instant
start_at (Ok t) = Some t
start_at (Err move_refusal.TooFar) = None
start_at (Err move_refusal.Outside) = None

unfoldable pub start_from : Whole → Whole → Whole → Option Instant
start_from y d u = cond (y.good && d.good && u.good) (start_at (instant_of y.value d.value u.value)) None

unfoldable pub start_of : List ℕ → Option Instant
start_of line = start_from (whole_in (first line)) (whole_in (second line)) (whole_in (third line))

-- ── the station ──

-- Of a decimal of so many bytes, so many before the point and so many behind it: one to nine digits, and one to six where there is a point
unfoldable pub formed : ℕ → ℕ → ℕ → Bool
formed size whole fraction =
    cond (eqb size whole) (leb 1 whole && leb whole 9) (leb 1 whole && leb whole 9 && leb 1 fraction && leb fraction 6)

-- six digits, those behind the point first
abbrev pub six_places : List ℕ → List ℕ
six_places fraction = sets (bytes "000000") 0 fraction

abbrev pub onward : Whole → List ℕ → Whole
onward w s = cond w.good (digits_on w.value s) w

-- the whole number of micro-units: the digits, the point moved six places
unfoldable pub micro_of : List ℕ → Whole
micro_of s =
    let n = cut_at 46 s in
    let fraction = behind n s in
    cond (formed (length s) n (length fraction)) (onward (digits_on 0 (take n s)) (six_places fraction)) bad

-- divided by 1,000,000, rounded once, and negated behind a minus sign
unfoldable pub signed_of : Bool → Whole → Decimal
signed_of minus m =
    record { good = m.good; value = cond minus (neg (decimal_of m.value 6)) (decimal_of m.value 6) }

unfoldable pub sign_size : List ℕ → ℕ
sign_size s = cond (begun (bytes "-") s) 1 0

unfoldable pub decimal_in : List ℕ → Decimal
decimal_in s = signed_of (eqb (sign_size s) 1) (micro_of (drop (sign_size s) s))

unfoldable pub station_from : Decimal → Decimal → Decimal → ps.Station
station_from x y z = cond (x.good && y.good && z.good) (station.At x.value y.value z.value) station.Unread

unfoldable pub station_of : List ℕ → ps.Station
station_of line = station_from (decimal_in (first line)) (decimal_in (second line)) (decimal_in (third line))
