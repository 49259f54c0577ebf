-- Times: signed decimals, one blank between two.
use Rattle.std.specs.Prelude.{ℕ, zero, suc, ◌+◌, ◌*◌, ◌-◌, min, List, [], ◌∷◌, Bool, true, false, cond, ◌&&◌, leb, eqb, ℤ, pos, negsuc, length, set, None, Option, Some}
use Rattle.request_line.specs.declared.Scan.{Scan}

-- A time farther out than this is read as this: the answer, refusal 9, is the same, and the number fits an i64.
abbrev pub limit : ℕ
limit = 999999999999999999

unfoldable pub signed : Bool → ℕ → ℤ
signed true zero = pos zero
signed true (suc n) = negsuc n
signed false n = pos n

abbrev pub time : Bool → ℕ → ℤ
time minus v = signed minus (min v limit)

-- the times before the first fault, and whether there is none
pub record Found : Type 0 where
  pub values : List ℤ
  pub good : Bool

abbrev pub bad : Found
bad = record { values = []; good = false }

abbrev pub also : ℤ → Found → Found
also z f = record { values = z ∷ f.values; good = f.good }

-- the times of the bytes to come, where a minus sign and some digits, of the value v, may stand before them
unfoldable pub read_on : Bool → Bool → ℕ → List ℕ → Found
read_on minus some v [] = cond some (also (time minus v) (record { values = []; good = true })) bad
read_on minus some v (b ∷ bs) =
    cond (eqb b 32) (cond some (also (time minus v) (read_on false false 0 bs)) bad)
    (cond (eqb b 45) (cond some bad (cond minus bad (read_on true false 0 bs)))
    (cond (leb 48 b) (cond (leb b 57) (read_on minus true (v * 10 + (b - 48)) bs) bad) bad))

abbrev pub times_of : List ℕ → Found
times_of s = read_on false false 0 s

unfoldable pub count_of : Found → Option ℕ
count_of f = cond f.good (Some (length f.values)) None

-- the state of the loop after a fault; after a blank; after a minus sign; after another byte; after any
unfoldable pub faulty : Scan → Scan
faulty t = record { good = false; minus = false; some = false; value = 0; count = t.count }

unfoldable pub blanked : Scan → Scan
blanked t = cond t.some (record { good = true; minus = false; some = false; value = 0; count = t.count + 1 }) (faulty t)

unfoldable pub minused : Scan → Scan
minused t = cond t.some (faulty t) (cond t.minus (faulty t) (record { good = true; minus = true; some = false; value = 0; count = t.count }))

unfoldable pub digited : Scan → ℕ → Scan
digited t b =
    cond (leb 48 b) (cond (leb b 57)
    (record { good = true; minus = t.minus; some = true; value = min (t.value * 10 + (b - 48)) limit; count = t.count })
    (faulty t)) (faulty t)

unfoldable pub stepped : Scan → ℕ → Scan
stepped t b = cond t.good (cond (eqb b 32) (blanked t) (cond (eqb b 45) (minused t) (digited t b))) t

-- the row after a byte
unfoldable pub stored : Scan → ℕ → List ℤ → List ℤ
stored t b row = cond (eqb b 32) (cond (t.good && t.some) (set row t.count (time t.minus t.value)) row) row
