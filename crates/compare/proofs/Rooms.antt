-- The room that is never too short.
use Prim.Native.Nat.{ℕ, ◌≤◌}
use mathlib.Core.Path.{◌≡◌, refl}
use mathlib.Core.Bool.{Bool, true, false, cond}
use mathlib.Core.List.{List}
use mathlib.Core.Option.{Option, none, some}
use native.Mathlib.Omega.{arith}
use borrow.Author.Tests.{le-leb}
use lib.Dec.{leb}
use lib.ListN.{length}
use Rattle.tle.specs.declared.Record.{Record}
use Rattle.roster.specs.Row.{roster_with}
use Rattle.roster.proofs.Decode.{roster_sound}
use Rattle.roster.proofs.Rows.{rows_exactly}
use Rattle.changes_text.specs.Claims.{most_room}
use Rattle.changes_text.proofs.Lengths.{listings_fit}
use Rattle.compare.specs.Compare.{text_of, compared_of}
use Rattle.compare.specs.Claims.{RoomSuffices, WrittenBounded}
use Rattle.std.specs.Prelude.{Err, Ok}
use Rattle.compare.specs.declared.CompareRefusal.TheVariants as compared

text_fits : (a row1 b row2 : List ℕ) (xs bs : List Record) → roster_with a row1 ≡ some xs → roster_with b row2 ≡ some bs → length (text_of xs bs) ≤ most_room
text_fits a row1 b row2 xs bs e f =
    let A = roster_sound a xs ((rows_exactly a row1 xs).0 e).0 in
    let B = roster_sound b bs ((rows_exactly b row2 bs).0 f).0 in
    listings_fit xs bs A.rising B.rising A.room B.room

short : (n room : ℕ) → n ≤ room → cond (leb n room) (Ok n) (Err compared.RoomTooShort) ≡ Err compared.RoomTooShort → ⊥
short n room h e = let k = le-leb n room h in let z : ◌≡◌ {A = ℕ} 0 1 = cc in omega arith

suffices_by : (a row1 b row2 : List ℕ) (o p : Option (List Record)) (room : ℕ) → roster_with a row1 ≡ o → roster_with b row2 ≡ p → most_room ≤ room → compared_of o p room ≡ Err compared.RoomTooShort → ⊥
suffices_by a row1 b row2 none p room e f h q = let z : ◌≡◌ {A = ℕ} 0 1 = cc in omega arith
suffices_by a row1 b row2 (some xs) none room e f h q = let z : ◌≡◌ {A = ℕ} 0 1 = cc in omega arith
suffices_by a row1 b row2 (some xs) (some bs) room e f h q = short (length (text_of xs bs)) room (omega (arith, text_fits a row1 b row2 xs bs e f)) q

pub room_suffices : RoomSuffices
room_suffices a row1 b row2 room h e = suffices_by a row1 b row2 (roster_with a row1) (roster_with b row2) room refl refl h e

counted : (t : Bool) (m n : ℕ) → cond t (Ok m) (Err compared.RoomTooShort) ≡ Ok n → m ≤ most_room → n ≤ most_room
counted true m n e h = let k : m ≡ n = cc in omega arith
counted false m n e h = let z : ◌≡◌ {A = ℕ} 0 1 = cc in absurd (omega arith)

written_by : (a row1 b row2 : List ℕ) (o p : Option (List Record)) (room n : ℕ) → roster_with a row1 ≡ o → roster_with b row2 ≡ p → compared_of o p room ≡ Ok n → n ≤ most_room
written_by a row1 b row2 none p room n e f q = let z : ◌≡◌ {A = ℕ} 0 1 = cc in absurd (omega arith)
written_by a row1 b row2 (some xs) none room n e f q = let z : ◌≡◌ {A = ℕ} 0 1 = cc in absurd (omega arith)
written_by a row1 b row2 (some xs) (some bs) room n e f q = counted (leb (length (text_of xs bs)) room) (length (text_of xs bs)) n q (text_fits a row1 b row2 xs bs e f)

pub written_bounded : WrittenBounded
written_bounded a row1 b row2 room n e = written_by a row1 b row2 (roster_with a row1) (roster_with b row2) room n refl refl e
