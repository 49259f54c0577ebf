-- Document 02, wish 2, of the records themselves: a list by rising catalogue number.
use Rattle.std.specs.Prelude.{ℕ, ◌+◌, ◌≤◌, ◌≡◌, true, cond, List, [], ◌∷◌, eqb, ltb, None, Option as Optional, Some}
use Rattle.std.proofs.Math.Option.{Option, none, some}
use Rattle.instant.specs.Calendar.{epoch_micros}
use Rattle.instant.specs.declared.Instant.{Instant}
use Rattle.tle.specs.Legal.{legal}
use Rattle.tle.specs.declared.Record.{Record}

-- "by rising catalogue number", from low on; each record is one that can be written
pub data Rising : ℕ → List Record → Type 0 where
  end : {low : ℕ} → Rising low []
  next : {low : ℕ} {r : Record} {rs : List Record} → low ≤ r.number → legal r ≡ true → Rising (r.number + 1) rs → Rising low (r ∷ rs)

-- the record of a number
unfoldable pub lookup : ℕ → List Record → Option Record
lookup n [] = none
lookup n (r ∷ rs) = cond (eqb r.number n) (some r) (lookup n rs)

-- the epoch as an instant: two epochs are compared so
unfoldable pub instant_of : Record → ℕ
instant_of r = epoch_micros r.year r.day

-- the instant that an epoch is, 0 for one outside the calendar: of a legal record, its instant
abbrev pub micros : Optional Instant → ℕ
micros (Some t) = t.0
micros None = 0

-- "Lodging a pair replaces the one of that number"; else it stands in order
unfoldable pub lodged : Record → List Record → List Record
lodged r [] = r ∷ []
lodged r (s ∷ rs) = cond (ltb s.number r.number) (s ∷ lodged r rs) (cond (eqb s.number r.number) (r ∷ rs) (r ∷ s ∷ rs))

-- "Withdrawing closes the gap"
unfoldable pub withdrawn : ℕ → List Record → List Record
withdrawn n [] = []
withdrawn n (s ∷ rs) = cond (eqb s.number n) rs (s ∷ withdrawn n rs)
