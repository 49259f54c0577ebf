-- Every call keeps a roster a roster and its row the row, and what stands in a place, read, is the record that was lodged.
use Prim.Native.Nat.{ℕ, ◌<◌, ◌≤◌}
use mathlib.Core.Path.{◌≡◌, refl, ap, sym, ◌∙◌}
use mathlib.Core.Bool.{Bool, true, false, cond}
use mathlib.Core.List.{List, [], ◌∷◌, ◌++◌}
use mathlib.Core.Option.{Option, none, some}
use native.Mathlib.Omega.{arith}
use borrow.Author.Tests.{leb-false, eq-eqb}
use lib.Dec.{eqb, leb, ltb}
use lib.ListN.{length, get_elem?, length-append}
use Rattle.tle.specs.Legal.{legal}
use Rattle.tle.specs.Read.{read_of}
use Rattle.tle.specs.declared.Record.{Record}
use Rattle.tle.specs.declared.Refusal.{Refusal}
use Rattle.std.specs.Prelude.{Err, Ok, Result}
use Rattle.roster_calls.specs.declared.LodgingRefusal.{LodgingRefusal}
use Rattle.roster_calls.specs.declared.LodgingRefusal.TheVariants as lodging
use Rattle.roster_calls.specs.declared.WithdrawalRefusal.{WithdrawalRefusal}
use Rattle.roster_calls.specs.declared.WithdrawalRefusal.TheVariants as withdrawal
use Rattle.tle.proofs.Accepted.{accepted_are_legal}
use Rattle.roster.specs.Records.{Rising, lookup, instant_of, lodged, withdrawn}
use Rattle.roster.specs.Roster.{bytes_of, roster_of}
use Rattle.roster.specs.Row.{row_of, roster_with}
use Rattle.roster.specs.Claims.{read_at}
use Rattle.roster_calls.specs.Calls.{ruled_by, ruling, answered, when_lodged, lodged_by, lodging_of, lodged_over, lodged_row, found_by, leaving, when_withdrawn, withdrawn_by, withdrawal_of, withdrawn_over, withdrawn_row, filled_by, filled_with, filling_of, filled_row}
use Rattle.roster_calls.specs.Claims.{ReadingFirst, LodgingKeeps, RefusedLodging, WithdrawingKeeps, RefusedWithdrawing, FillingKeeps, RefusedFilling, LodgedReads}
use Rattle.roster.proofs.Sorted.{View, here, away, view, lodged_rising, withdrawn_rising, withdrawn_short}
use Rattle.roster.proofs.Decode.{roster_back, roster_sound, places_read}
use Rattle.roster.proofs.Rows.{rows_exactly}

-- ── reading comes first ──

-- what is ruled of a record is no refusal of reading
ruled_by_lem : (x : Bool) (a b : Result (Unit {0}) LodgingRefusal) (why : Refusal) → (a ≡ Err (lodging.Unread why) → ⊥) → (b ≡ Err (lodging.Unread why) → ⊥) → cond x a b ≡ Err (lodging.Unread why) → ⊥
ruled_by_lem true a b why f g e = f e
ruled_by_lem false a b why f g e = g e

abbrev is_unread : Result (Unit {0}) LodgingRefusal → ℕ
is_unread (Ok tt) = 0
is_unread (Err (lodging.Unread why)) = 1
is_unread (Err lodging.NoRoster) = 0
is_unread (Err lodging.Older) = 0
is_unread (Err lodging.Full) = 0

other : (a : Result (Unit {0}) LodgingRefusal) (why : Refusal) → is_unread a ≡ 0 → a ≡ Err (lodging.Unread why) → ⊥
other a why h e = let z : ◌≡◌ {A = ℕ} 0 1 = sym h ∙ ap is_unread e in absurd (omega arith)

ruled : (r : Record) (rs : List Record) (o : Option Record) (why : Refusal) → ruled_by r rs o ≡ Err (lodging.Unread why) → ⊥
ruled r rs none why e = ruled_by_lem (leb 64 (length rs)) (Err lodging.Full) (Ok tt) why (other (Err lodging.Full) why refl) (other (Ok tt) why refl) e
ruled r rs (some s) why e =
    ruled_by_lem (ltb (instant_of r) (instant_of s)) (Err lodging.Older) (Ok tt) why (other (Err lodging.Older) why refl) (other (Ok tt) why refl) e

refused_by_lem : (g : Result Record Refusal) (o : Option (List Record)) (why : Refusal) → answered g o ≡ Err (lodging.Unread why) → g ≡ Err why
refused_by_lem (Err w) o why e = let q : w ≡ why = cc in ap Err q
refused_by_lem (Ok r) none why e = absurd (other (Err lodging.NoRoster) why refl e)
refused_by_lem (Ok r) (some rs) why e = absurd (ruled r rs (lookup r.number rs) why e)

pub reading_first : ReadingFirst
unfolding lodging_of
reading_first b row line1 line2 why =
    (λ e. refused_by_lem (read_of line1 line2) (roster_with b row) why e, λ g. ap (λ (t : Result Record Refusal). answered t (roster_with b row)) g)

-- ── the records after an accepted call ──

room_left : (x : Bool) (n : ℕ) → leb 64 n ≡ x → cond {A = Result (Unit {0}) LodgingRefusal} x (Err lodging.Full) (Ok tt) ≡ Ok tt → n < 64
room_left true n e f = let z : ◌≡◌ {A = ℕ} 0 1 = cc in absurd (omega arith)
room_left false n e f = leb-false 64 n e

-- an accepted pair has room
pub room_after : (r : Record) (rs : List Record) → View r.number rs → length rs ≤ 64 → ruling r rs ≡ Ok tt → length (lodged r rs) ≤ 64
room_after r rs (here S) h v =
    rw (S.lodges r refl) (omega (arith, length-append S.xs (r ∷ S.zs), length-append S.xs (S.s ∷ S.zs), ap length S.cut))
room_after r rs (away M) h v =
    let few = room_left (leb 64 (length rs)) (length rs) refl (rw M.none_found at v) in
    rw (M.lodges r refl) (omega (arith, length-append M.xs (r ∷ M.ys), length-append M.xs M.ys, ap length M.cut))

-- a buffer and a row that hold the same records are a roster and its row
pub both_back : (rs : List Record) → Rising 0 rs → length rs ≤ 64 → roster_with (bytes_of rs) (row_of rs) ≡ some rs
both_back rs q h = (rows_exactly (bytes_of rs) (row_of rs) rs).1 (roster_back rs q h, refl)

pub after_lodging : (r : Record) (rs : List Record) → Rising 0 rs → length rs ≤ 64 → legal r ≡ true → ruling r rs ≡ Ok tt
    → roster_with (bytes_of (lodged r rs)) (row_of (lodged r rs)) ≡ some (lodged r rs)
after_lodging r rs q h l v =
    both_back (lodged r rs) (lodged_rising r l (omega arith) q) (room_after r rs (view r.number q) h v)

pub after_withdrawing : (n : ℕ) (rs : List Record) → Rising 0 rs → length rs ≤ 64
    → roster_with (bytes_of (withdrawn n rs)) (row_of (withdrawn n rs)) ≡ some (withdrawn n rs)
after_withdrawing n rs q h = both_back (withdrawn n rs) (withdrawn_rising n q) (omega (arith, withdrawn_short n rs))

pub lodging_keeps : LodgingKeeps
unfolding lodging_of lodged_over lodged_row
lodging_keeps b row line1 line2 rs r e g v =
    let d = roster_sound b rs ((rows_exactly b row rs).0 e).0 in
    let a : ruling r rs ≡ (Ok tt) = rw (g, e) at v in
    rw (g, e, a) (after_lodging r rs d.rising d.room (accepted_are_legal line1 line2 r g) a)

found_some : (o : Option Record) (new b : List ℕ) → found_by o ≡ Ok tt → when_withdrawn (found_by o) new b ≡ new
found_some none new b e = cc
found_some (some r) new b e = refl

pub withdrawing_keeps : WithdrawingKeeps
unfolding withdrawal_of withdrawn_over withdrawn_row
withdrawing_keeps b row n rs e v =
    let d = roster_sound b rs ((rows_exactly b row rs).0 e).0 in
    let f = rw e at v in
    rw (e, found_some (lookup n rs) (bytes_of (withdrawn n rs)) b f, found_some (lookup n rs) (row_of (withdrawn n rs)) row f)
    (after_withdrawing n rs d.rising d.room)

pub filling_keeps : FillingKeeps
unfolding filling_of filled_row
filling_keeps b row rs e h = rw (e, eq-eqb (length row) 64 h) (refl, (rows_exactly b (row_of rs) rs).1 (e, refl))

-- ── after a refused call ──

unless_lodged : (v : Result (Unit {0}) LodgingRefusal) (new b : List ℕ) → (v ≡ Ok tt → ⊥) → when_lodged v new b ≡ b
unless_lodged (Ok tt) new b h = absurd (h refl)
unless_lodged (Err (lodging.Unread why)) new b h = refl
unless_lodged (Err lodging.NoRoster) new b h = refl
unless_lodged (Err lodging.Older) new b h = refl
unless_lodged (Err lodging.Full) new b h = refl

lodging_stays : (held : List Record → List ℕ) (g : Result Record Refusal) (o : Option (List Record)) (b : List ℕ) → (answered g o ≡ Ok tt → ⊥) → lodged_by held g o b ≡ b
lodging_stays held (Err why) o b h = refl
lodging_stays held (Ok r) none b h = refl
lodging_stays held (Ok r) (some rs) b h = unless_lodged (ruling r rs) (held (lodged r rs)) b h

pub refused_lodging : RefusedLodging
unfolding lodging_of lodged_over lodged_row
refused_lodging b row line1 line2 h =
    (lodging_stays bytes_of (read_of line1 line2) (roster_with b row) b h, lodging_stays row_of (read_of line1 line2) (roster_with b row) row h)

unless_withdrawn : (v : Result (Unit {0}) WithdrawalRefusal) (new b : List ℕ) → (v ≡ Ok tt → ⊥) → when_withdrawn v new b ≡ b
unless_withdrawn (Ok tt) new b h = absurd (h refl)
unless_withdrawn (Err withdrawal.NoRoster) new b h = refl
unless_withdrawn (Err withdrawal.Absent) new b h = refl

withdrawing_stays : (held : List Record → List ℕ) (n : ℕ) (o : Option (List Record)) (b : List ℕ) → (leaving n o ≡ Ok tt → ⊥) → withdrawn_by held n o b ≡ b
withdrawing_stays held n none b h = refl
withdrawing_stays held n (some rs) b h = unless_withdrawn (found_by (lookup n rs)) (held (withdrawn n rs)) b h

pub refused_withdrawing : RefusedWithdrawing
unfolding withdrawal_of withdrawn_over withdrawn_row
refused_withdrawing b row n h =
    (withdrawing_stays bytes_of n (roster_with b row) b h, withdrawing_stays row_of n (roster_with b row) row h)

filling_stays : (o : Option (List Record)) (x : Bool) (row : List ℕ) → (filled_by o x ≡ Ok tt → ⊥) → filled_with o x row ≡ row
filling_stays none x row h = refl
filling_stays (some rs) true row h = absurd (h refl)
filling_stays (some rs) false row h = refl

pub refused_filling : RefusedFilling
unfolding filling_of filled_row
refused_filling b row h = filling_stays (roster_of b) (eqb (length row) 64) row h

-- ── demand 2 ──

pub element_at : (xs : List Record) (r : Record) (zs : List Record) → get_elem? (xs ++ r ∷ zs) (length xs) ≡ some r
element_at [] r zs = refl
element_at (x ∷ xs) r zs = element_at xs r zs

-- the index of a record that was lodged
lodged_at : (r : Record) (rs : List Record) → View r.number rs → (i : ℕ) × (i < length (lodged r rs)) × (get_elem? (lodged r rs) i ≡ some r)
lodged_at r rs (here S) =
    rw (S.lodges r refl) (length S.xs, omega (arith, length-append S.xs (r ∷ S.zs)), element_at S.xs r S.zs)
lodged_at r rs (away M) =
    rw (M.lodges r refl) (length M.xs, omega (arith, length-append M.xs (r ∷ M.ys)), element_at M.xs r M.ys)

lodged_read : (b row line1 line2 : List ℕ) (g : Result Record Refusal) (o : Option (List Record)) → read_of line1 line2 ≡ g → roster_with b row ≡ o → lodging_of b row line1 line2 ≡ Ok tt
    → answered g o ≡ Ok tt → (i : ℕ) × (i < 64) × (read_at i (lodged_over b row line1 line2) ≡ g)
lodged_read b row line1 line2 (Err why) o e f a v = let z : ◌≡◌ {A = ℕ} 0 1 = cc in absurd (omega arith)
lodged_read b row line1 line2 (Ok r) none e f a v = let z : ◌≡◌ {A = ℕ} 0 1 = cc in absurd (omega arith)
lodged_read b row line1 line2 (Ok r) (some rs) e f a v =
    let d = roster_sound b rs ((rows_exactly b row rs).0 f).0 in
    let w = view r.number d.rising in
    let p = lodged_at r rs w in
    let k = (rows_exactly (lodged_over b row line1 line2) (lodged_row b row line1 line2) (lodged r rs)).0 (lodging_keeps b row line1 line2 rs r f e a) in (
      p.0,
      omega (arith, p.1, room_after r rs w d.room v),
      places_read (lodged_over b row line1 line2) (lodged r rs) p.0 r k.0 p.2,
    )

pub lodged_reads : LodgedReads
unfolding lodging_of
lodged_reads b row line1 line2 v = lodged_read b row line1 line2 (read_of line1 line2) (roster_with b row) refl refl v v
