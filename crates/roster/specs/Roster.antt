-- Document 02, wish 2: the bytes of a roster, and the roster that a buffer holds.
use Rattle.std.specs.Prelude.{ℕ, zero, suc, ◌+◌, Bool, true, false, cond, ◌&&◌, List, [], ◌∷◌, ◌++◌, eqb, leb, length, take, drop, Err, None, Ok, Option as Optional, Result, Some}
use Rattle.std.proofs.Math.Option.{Option, none, some}
use Rattle.tle.specs.Legal.{legal}
use Rattle.tle.specs.Read.{read_of}
use Rattle.tle.specs.declared.Record.{Record}
use Rattle.tle.specs.declared.Refusal.{Refusal}
use Rattle.tle.specs.declared.Line.TheVariants.{One, Two}
use Rattle.tle_writer.specs.Lines.{line_of}
use Rattle.tle_writer.specs.Over.{over}
use Rattle.roster.specs.Packed.{packed}

-- a pair "as written by us": line 1 and line 2, 138 bytes
unfoldable pub pair_bytes : Record → List ℕ
pair_bytes r = line_of One r ++ line_of Two r

-- a pair written over the 138 bytes of l after the first at: nothing where there are none, or the record cannot be written
unfoldable pub pair_over : ℕ → Record → List ℕ → List ℕ
pair_over at r l = cond (leb (at + 138) (length l)) (cond (legal r) (over at 138 (pair_bytes r) l) l) l

-- "up to 64 pairs .. packed from the front, zeros after": 8,832 bytes
abbrev pub bytes_of : List Record → List ℕ
bytes_of rs = packed pair_bytes 138 64 rs

unfoldable pub all_zero : List ℕ → Bool
all_zero [] = true
all_zero (b ∷ bs) = eqb b 0 && all_zero bs

unfoldable pub same : List ℕ → List ℕ → Bool
same [] [] = true
same [] (y ∷ ys) = false
same (x ∷ xs) [] = false
same (x ∷ xs) (y ∷ ys) = eqb x y && same xs ys

-- a pair that is read, where its bytes are those that we write of it
abbrev pub as_written : List ℕ → Result Record Refusal → Optional Record
as_written p (Err why) = None
as_written p (Ok r) = cond (same p (pair_bytes r)) (Some r) None

-- the pair of a place of 138 bytes
unfoldable pub place_of : List ℕ → Optional Record
place_of p = as_written p (read_of (take 69 p) (drop 69 p))

abbrev pub in_front : Record → Option (List Record) → Option (List Record)
in_front r none = none
in_front r (some rs) = some (r ∷ rs)

-- a place's pair, of the number low or above, in front of the pairs that follow
abbrev pub followed : ℕ → Optional Record → (ℕ → Option (List Record)) → Option (List Record)
followed low None rest = none
followed low (Some r) rest = cond (leb low r.number) (in_front r (rest (r.number + 1))) none

-- the pairs of k places, of the numbers from low on: none where zeros alone are left
unfoldable pub pairs_in : ℕ → ℕ → List ℕ → Option (List Record)
pairs_in zero low b = some []
pairs_in (suc k) low b = cond (all_zero b) (some []) (followed low (place_of (take 138 b)) (λ next. pairs_in k next (drop 138 b)))

-- the records of a buffer that is a roster
unfoldable pub roster_of : List ℕ → Option (List Record)
roster_of b = cond (eqb (length b) 8832) (pairs_in 64 0 b) none

-- whether a buffer is no roster, by what was found in it
abbrev pub is_none : Option (List Record) → Bool
is_none none = true
is_none (some rs) = false
