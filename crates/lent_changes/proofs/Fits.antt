-- What is written fits its bits.
use Prim.Native.Nat.{ℕ}
use mathlib.Core.Path.{◌≡◌, sym}
use mathlib.Core.List.{List}
use Rattle.roster.specs.Row.{roster_with}
use Rattle.compare.specs.Compare.{compared_of}
use Rattle.std.specs.Prelude.{Err, Ok, Result}
use Rattle.compare.specs.declared.CompareRefusal.{CompareRefusal}
use Rattle.compare.specs.declared.CompareRefusal.TheVariants as compared
use Rattle.compare.proofs.Rooms.{written_bounded}
use Rattle.lent_changes.specs.Answer.{WrittenFits}

pub written_fits : (a row1 b row2 : List ℕ) (room : ℕ) (x : Result ℕ CompareRefusal) → x ≡ compared_of (roster_with a row1) (roster_with b row2) room → WrittenFits x
written_fits a row1 b row2 room (Ok n) e = written_bounded a row1 b row2 room n (sym e)
written_fits a row1 b row2 room (Err (compared.NoRoster which)) e = tt
written_fits a row1 b row2 room (Err compared.RoomTooShort) e = tt
