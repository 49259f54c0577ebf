-- What the length of a listing decides.
use Prim.Native.Nat.{ℕ, ◌<◌, ◌≤◌}
use mathlib.Core.Path.{◌≡◌, refl, ap, sym}
use mathlib.Core.Bool.{true, false}
use mathlib.Core.List.{List}
use mathlib.Core.Option.{Option, none, some}
use native.Mathlib.Omega.{arith}
use borrow.Author.Tests.{ltb-true, ltb-false, le-leb, lt-leb, le-ltb}
use lib.Dec.{ltb}
use lib.ListN.{length}
use Rattle.text.specs.Output.{Put, most}
use Rattle.text.proofs.Pieces.{measured, has_room, too_short}
use Rattle.tle.specs.declared.Record.{Record}
use Rattle.roster.specs.Roster.{roster_of, is_none}
use Rattle.roster.specs.Row.{roster_with}
use Rattle.roster.proofs.Rows.{with_row}
use Rattle.changes_text.proofs.Lengths.{listings_fit}
use Rattle.compare.specs.Compare.{text_of, compared_of, compared_over}
use Rattle.compare.specs.Walk.{records_in, Holding}
use Rattle.compare.specs.declared.Which.TheVariants as which
use Rattle.std.specs.Prelude.{Err, Ok, Result}
use Rattle.compare.specs.declared.CompareRefusal.{CompareRefusal}
use Rattle.compare.specs.declared.CompareRefusal.TheVariants as compared
use Rattle.compare.proofs.Places.{sound, few}

abbrev pub Compares : Option (List Record) → Option (List Record) → List ℕ → Result ℕ CompareRefusal → List ℕ → Type 0
Compares o p out r after = (r ≡ compared_of o p (length out)) × (after ≡ compared_over o p out)

pub no_first : (o p : Option (List Record)) (out : List ℕ) → is_none o ≡ true → Compares o p out (Err (compared.NoRoster which.First)) out
no_first none p out h = (refl, refl)
no_first (some xs) p out h = let z : ◌≡◌ {A = ℕ} 0 1 = cc in absurd (omega arith)

pub no_second : (o p : Option (List Record)) (out : List ℕ) → is_none o ≡ false → is_none p ≡ true → Compares o p out (Err (compared.NoRoster which.Second)) out
no_second none p out h g = let z : ◌≡◌ {A = ℕ} 0 1 = cc in absurd (omega arith)
no_second (some xs) none out h g = (refl, refl)
no_second (some xs) (some bs) out h g = let z : ◌≡◌ {A = ℕ} 0 1 = cc in absurd (omega arith)

module _ (a b : List ℕ) (A : Holding a) (B : Holding b) where
  abbrev text : List ℕ
  text = text_of (records_in a) (records_in b)

  fits_room : length text ≤ 24448
  fits_room = listings_fit (records_in a) (records_in b) (sound a A).rising (sound b B).rising (few a A) (few b B)

  brief : length text < most
  brief = omega (arith, fits_room)

  -- a room that holds every listing
  pub roomy : (room : ℕ) → 24448 ≤ room → false ≡ ltb room (length text)
  roomy room h = sym (le-ltb room (length text) (omega (arith, fits_room)))

  -- a run over any buffer measures
  pub size : {o o' : List ℕ} {n : ℕ} → Put o 0 text o' n → n ≡ length text
  size p = measured p brief

  pub no_room : (out : List ℕ) → ltb (length out) (length text) ≡ true → Compares (roster_of a) (roster_of b) out (Err compared.RoomTooShort) out
  no_room out h =
      let l = ltb-true (length out) (length text) h in
      rw (A.records, B.records) (rw (lt-leb (length text) (length out) l) refl, too_short text out l)

  pub written : (out after : List ℕ) (m : ℕ) → ltb (length out) (length text) ≡ false → Put out 0 text after m
      → Compares (roster_of a) (roster_of b) out (Ok m) after
  written out after m h p =
      let l : length text ≤ length out = ltb-false (length out) (length text) h in
      rw (A.records, B.records) (rw (le-leb (length text) (length out) l) (ap Ok (measured p brief)), has_room p brief l)

-- two rosters and their rows, where each is found with its row
pub with_rows : (a b row1 row2 out after : List ℕ) (r : Result ℕ CompareRefusal) → is_none (roster_with a row1) ≡ false → is_none (roster_with b row2) ≡ false
    → Compares (roster_of a) (roster_of b) out r after → Compares (roster_with a row1) (roster_with b row2) out r after
with_rows a b row1 row2 out after r h g k = rw (with_row a row1 h, with_row b row2 g) k
