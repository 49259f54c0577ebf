-- Whole numbers in a row: none or more decimals below 2 ^ 64, one blank before each. Definitions only.
use Rattle.std.specs.Prelude.{ℕ, ◌+◌, ◌*◌, ◌-◌, List, [], ◌∷◌, Bool, true, false, cond, ◌&&◌, leb, ltb, eqb, length, set, None, Option, Some}
use Rattle.number_list.specs.declared.Scan.{Scan}

-- 2 ^ 64 - 1
abbrev pub most_number : ℕ
most_number = 18446744073709551615

-- the numbers before the first fault, and whether there is none
pub record Found : Type 0 where
  pub values : List ℕ
  pub good : Bool

abbrev pub bad : Found
bad = record { values = []; good = false }

abbrev pub nothing : Found
nothing = record { values = []; good = true }

abbrev pub also : ℕ → Found → Found
also v f = record { values = v ∷ f.values; good = f.good }

-- the numbers of the bytes to come, where some digits, of the value v, may stand before them
unfoldable pub read_on : Bool → ℕ → List ℕ → Found
read_on some v [] = cond some (also v nothing) bad
read_on some v (b ∷ bs) =
    cond (eqb b 32) (cond some (also v (read_on false 0 bs)) bad)
    (cond (ltb b 48) bad
    (cond (ltb 57 b) bad
    (cond (leb (v * 10 + (b - 48)) most_number) (read_on true (v * 10 + (b - 48)) bs) bad)))

unfoldable pub numbers_of : List ℕ → Found
numbers_of [] = nothing
numbers_of (b ∷ bs) = cond (eqb b 32) (read_on false 0 bs) bad

unfoldable pub count_of : Found → Option ℕ
count_of f = cond f.good (Some (length f.values)) None

-- the state of the loop after a fault; after a blank; after a digit; after any byte
unfoldable pub faulty : Scan → Scan
faulty t = record { good = false; some = false; value = 0; count = t.count }

unfoldable pub blanked : Scan → Scan
blanked t = cond t.some (record { good = true; some = false; value = 0; count = t.count + 1 }) (faulty t)

unfoldable pub digited : Scan → ℕ → Scan
digited t d = cond (leb (t.value * 10 + d) most_number) (record { good = true; some = true; value = t.value * 10 + d; count = t.count }) (faulty t)

unfoldable pub stepped : Scan → ℕ → Scan
stepped t b = cond t.good (cond (eqb b 32) (blanked t) (cond (ltb b 48) (faulty t) (cond (ltb 57 b) (faulty t) (digited t (b - 48))))) t

-- the row after a byte
unfoldable pub stored : Scan → ℕ → List ℕ → List ℕ
stored t b row = cond (eqb b 32) (cond (t.good && t.some) (set row t.count t.value) row) row
