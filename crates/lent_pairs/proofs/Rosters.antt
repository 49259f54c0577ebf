-- The column that comes back with a pair that is not lodged is a column of its line.
use Prim.Native.Nat.{ℕ}
use mathlib.Core.Path.{◌≡◌, sym}
use mathlib.Core.List.{List}
use native.Mathlib.Omega.{arith}
use Rattle.answers.specs.Answer.{answer}
use Rattle.roster_calls.specs.Calls.{lodging_of}
use Rattle.std.specs.Prelude.{Err, Ok, Result}
use Rattle.roster_calls.specs.declared.LodgingRefusal.{LodgingRefusal}
use Rattle.roster_calls.specs.declared.LodgingRefusal.TheVariants as lodging
use Rattle.roster_calls.proofs.Kept.{reading_first}
use Rattle.lent_pairs.specs.Roster.{UnreadFits}
use Rattle.answers.proofs.Columns.{columns_fit}

pub lodging_fits : (b row line1 line2 : List ℕ) (a : Result (Unit {0}) LodgingRefusal) → a ≡ lodging_of b row line1 line2 → UnreadFits a
lodging_fits b row line1 line2 (Ok tt) e = tt
lodging_fits b row line1 line2 (Err (lodging.Unread why)) e = columns_fit line1 line2 why ((reading_first b row line1 line2 why).0 (sym e))
lodging_fits b row line1 line2 (Err lodging.NoRoster) e = tt
lodging_fits b row line1 line2 (Err lodging.Older) e = tt
lodging_fits b row line1 line2 (Err lodging.Full) e = tt

-- a number alone
pub plain : (n : ℕ) → n ≡ answer n 0 0 0
unfolding answer
plain n = omega arith
