-- A line by its number, and the record of lines that are accepted.
use Prim.Native.Nat.{ℕ}
use mathlib.Core.Path.{◌≡◌, refl}
use mathlib.Core.Bool.{Bool, true, false, cond}
use mathlib.Core.List.{List, ◌++◌}
use borrow.Author.Tests.{eq-eqb, ne_eqb}
use lib.Dec.{eqb, ltb}
use lib.IntN.{ℤ}
use lib.ListN.{length, drop}
use Rattle.tle.specs.Read.{read_of}
use Rattle.tle.specs.declared.Line.TheVariants.{One, Two}
use Rattle.tle.specs.declared.Record.{Record}
use Rattle.std.specs.Prelude.{Ok}
use Rattle.tle.proofs.Accepted.{accepted_are_legal}
use Rattle.tle_writer.specs.Write.{number_of, writing_of, written_over}
use Rattle.record_numbers.specs.Numbers.{numbers_of, store_refusal, stored_over}
use Rattle.lent_pairs.specs.Records.{line_refusal, line_over}

module _ (r : Record) (line : ℕ) (out : List ℕ) where
  pub line_one : {k : ℕ} {out' : List ℕ} → line ≡ 1 → k ≡ number_of (writing_of r out) → out' ≡ written_over r One out → (k ≡ line_refusal r line out) × (out' ≡ line_over r line out)
  unfolding line_refusal line_over
  line_one e p q = (rw (eq-eqb line 1 e) p, rw (eq-eqb line 1 e) q)

  pub line_two : {k : ℕ} {out' : List ℕ} → (line ≡ 1 → ⊥) → line ≡ 2 → k ≡ number_of (writing_of r out) → out' ≡ written_over r Two out → (k ≡ line_refusal r line out) × (out' ≡ line_over r line out)
  unfolding line_refusal line_over
  line_two d e p q = (rw (ne_eqb line 1 d, eq-eqb line 2 e) p, rw (ne_eqb line 1 d, eq-eqb line 2 e) q)

  pub line_none : (line ≡ 1 → ⊥) → (line ≡ 2 → ⊥) → (16 ≡ line_refusal r line out) × (out ≡ line_over r line out)
  unfolding line_refusal line_over
  line_none d e = (rw (ne_eqb line 1 d, ne_eqb line 2 e), rw (ne_eqb line 1 d, ne_eqb line 2 e))

swapped : (b : Bool) (x y : List ℤ) → cond (eqb (cond b 17 0) 0) y x ≡ cond b x y
swapped true x y = refl
swapped false x y = refl

-- the record of accepted lines is never refused with 16
module _ (line1 line2 : List ℕ) (r : Record) (e : read_of line1 line2 ≡ Ok r) where
  pub accepted_refusal : (n : ℕ) → store_refusal r n ≡ cond (ltb n 22) 17 0
  unfolding store_refusal
  accepted_refusal n = rw (accepted_are_legal line1 line2 r e)

  pub accepted_stored : (fields : List ℤ) → stored_over r fields ≡ cond (ltb (length fields) 22) fields (numbers_of r ++ drop 22 fields)
  unfolding stored_over
  accepted_stored fields = rw (accepted_refusal (length fields)) (swapped (ltb (length fields) 22) fields (numbers_of r ++ drop 22 fields))
