-- What one pass over a buffer finds of a number, with the instants of its pairs.
use Rattle.std.specs.Prelude.{ℕ, ◌+◌, true, false, cond, List, [], ◌∷◌, eqb, ltb, replicate, None, Option as Optional, Some}
use Rattle.std.proofs.Math.Option.{Option, none, some}
use Rattle.tle.specs.declared.Record.{Record}
use Rattle.roster.specs.Roster.{roster_of}
use Rattle.roster.specs.Row.{row_of, roster_with}
use Rattle.roster.specs.declared.scan.Tally.{Tally}
use Rattle.roster.specs.declared.scan.Contents.{Contents}

-- how many pairs, how many below the number, whether one has it, and the least number that may come next
abbrev pub start : ℕ → Tally
start n = record { number = n; count = 0; below = 0; present = false; low = 0 }

unfoldable pub tallied : Tally → Record → Tally
tallied t r = record {
  number = t.number;
  count = t.count + 1;
  below = cond (ltb r.number t.number) (t.below + 1) t.below;
  present = cond (eqb r.number t.number) true t.present;
  low = r.number + 1;
}

unfoldable pub tallies : Tally → List Record → Tally
tallies t [] = t
tallies t (r ∷ rs) = tallies (tallied t r) rs

-- the tally of the pairs that are left, where they are a roster's
abbrev pub resumed : Tally → Option (List Record) → Optional Tally
resumed t none = None
resumed t (some rs) = Some (tallies t rs)

-- the row of a roster that was found; zeros where there is none
abbrev pub row_in : Option (List Record) → List ℕ
row_in none = replicate 64 0
row_in (some rs) = row_of rs

abbrev pub scanned_of : ℕ → Option (List Record) → Contents
scanned_of n o = record { found = resumed (start n) o; row = row_in o }

unfoldable pub scan_of : ℕ → List ℕ → Contents
scan_of n b = scanned_of n (roster_of b)

-- the same of a buffer and the row beside it
unfoldable pub judged_of : ℕ → List ℕ → List ℕ → Optional Tally
judged_of n b row = resumed (start n) (roster_with b row)
