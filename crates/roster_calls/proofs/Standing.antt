-- A roster and its row that were judged: what each call makes of the records, of the bytes and of the instants.
use Prim.Native.Nat.{ℕ, ◌+◌, ◌-◌, ◌*◌, ◌<◌, ◌≤◌}
use mathlib.Core.Path.{◌≡◌, refl, ap, sym, ◌∙◌}
use mathlib.Core.Bool.{Bool, true, false}
use mathlib.Core.List.{List, [], ◌∷◌, ◌++◌}
use mathlib.Core.Option.{none, some}
use native.Mathlib.Nat.{mul-le-mul_right}
use native.Mathlib.Numerals.{add-one}
use native.Mathlib.Omega.{arith}
use borrow.Author.Tests.{le-leb, lt-leb, lt-ltb, le-ltb, eq-eqb, ne_eqb}
use lib.ListN.{length, drop, set, get_or, replicate, length-append}
use lib.Seq.{set_split, drop-drop, get_or-drop}
use Rattle.tle.specs.Legal.{legal}
use Rattle.tle.specs.Read.{read_of}
use Rattle.tle.specs.declared.Record.{Record}
use Rattle.tle.specs.declared.Refusal.{Refusal}
use Rattle.std.specs.Prelude.{Err, Ok, Result}
use Rattle.roster_calls.specs.declared.LodgingRefusal.{LodgingRefusal}
use Rattle.roster_calls.specs.declared.LodgingRefusal.TheVariants as lodging
use Rattle.roster_calls.specs.declared.WithdrawalRefusal.{WithdrawalRefusal}
use Rattle.roster_calls.specs.declared.WithdrawalRefusal.TheVariants as withdrawal
use Rattle.roster_calls.specs.declared.FillingRefusal.{FillingRefusal}
use Rattle.roster_calls.specs.declared.FillingRefusal.TheVariants as filling
use Rattle.tle_writer.specs.Over.{over}
use Rattle.roster.specs.Packed.{packed}
use Rattle.roster.specs.Shift.{opened, closed}
use Rattle.roster.specs.Records.{lookup, lodged, withdrawn, instant_of}
use Rattle.roster.specs.Roster.{pair_bytes, pair_over, bytes_of, roster_of}
use Rattle.roster.specs.Row.{instant_at, row_of, roster_with}
use Rattle.roster_calls.specs.Calls.{answered, lodged_by, lodging_of, lodged_over, lodged_row, withdrawal_of, withdrawn_over, withdrawn_row, filling_of, filled_row}
use Rattle.roster.specs.declared.scan.Tally.{Tally}
use Rattle.roster.proofs.Pairs.{length_pair, pair_over_lem}
use Rattle.roster.proofs.Sorted.{below, below_short, Standing, Missing, View, here, away, view}
use Rattle.roster.proofs.Packing.{length_packed, replaced, inserted, removed, place_of_lem}
use Rattle.roster.proofs.Found.{Found, there}
use Rattle.roster_calls.proofs.Kept.{element_at}

-- ── lent memory that holds the records, w numbers each ──

fits_at : (w at k : ℕ) (l : List ℕ) → at ≡ k → length l ≡ 64 * w → k < 64 → at * w + w ≤ length l
fits_at w at k l e h g =
    let j : at + 1 ≤ 64 = omega arith in
    let m : (at + 1) * w ≤ 64 * w = mul-le-mul_right w j in
    omega arith

module _ (f : Record → List ℕ) (w : ℕ) (wide : (r : Record) → length (f r) ≡ w) (n : ℕ) (rs : List Record) (l : List ℕ) (at : ℕ)
    (holds : l ≡ packed f w 64 rs) (place : at ≡ below n rs) where
  module _ (S : Standing n rs) (room : length rs ≤ 64) where
    reached : at ≡ length S.xs
    reached = place ∙ sym S.place

    around : l ≡ packed f w 64 (S.xs ++ S.s ∷ S.zs)
    around = holds ∙ ap (packed f w 64) S.cut

    parts : length (S.xs ++ S.s ∷ S.zs) ≤ 64
    parts = rw (← S.cut) room

    pub held_fits : at * w + w ≤ length l
    held_fits = fits_at w at (length S.xs) l reached (ap length holds ∙ length_packed f w wide 64 rs room) (omega (arith, parts, length-append S.xs (S.s ∷ S.zs)))

    pub replace : (r : Record) → r.number ≡ n → over (at * w) w (f r) l ≡ packed f w 64 (lodged r rs)
    replace r q =
        ap (λ (p : ℕ). over (p * w) w (f r) l) reached
        ∙ ap (over (length S.xs * w) w (f r)) around
        ∙ replaced f w wide 64 S.xs S.zs S.s r
        ∙ sym (ap (packed f w 64) (S.lodges r q))

    pub remove : closed (at * w) w l ≡ packed f w 64 (withdrawn n rs)
    remove =
        ap (λ (p : ℕ). closed (p * w) w l) reached
        ∙ ap (closed (length S.xs * w) w) around
        ∙ removed f w wide 64 S.xs S.zs S.s parts
        ∙ sym (ap (packed f w 64) S.leaves)

  module _ (M : Missing n rs) (room : length rs < 64) where
    from : at ≡ length M.xs
    from = place ∙ sym M.place

    free : length (M.xs ++ M.ys) < 64
    free = rw (← M.cut) room

    pub free_fits : at * w + w ≤ length l
    free_fits = fits_at w at (length M.xs) l from (ap length holds ∙ length_packed f w wide 64 rs (omega arith)) (omega (arith, free, length-append M.xs M.ys))

    pub insert : (r : Record) → r.number ≡ n → over (at * w) w (f r) (opened (at * w) w l) ≡ packed f w 64 (lodged r rs)
    insert r q =
        ap (λ (p : ℕ). over (p * w) w (f r) (opened (p * w) w l)) from
        ∙ ap (λ (m : List ℕ). over (length M.xs * w) w (f r) (opened (length M.xs * w) w m)) (holds ∙ ap (packed f w 64) M.cut)
        ∙ inserted f w wide 64 M.xs M.ys free r
        ∙ sym (ap (packed f w 64) (M.lodges r q))

-- ── a row: one instant a place ──

one : (r : Record) → length (instant_at r) ≡ 1
one r = refl

pub set_over : (l : List ℕ) (i v : ℕ) → i < length l → set l i v ≡ over (i * 1) 1 (v ∷ []) l
unfolding over
set_over l i v h =
    let e : i * 1 ≡ i = omega arith in
    set_split l i v h ∙ rw (e, drop-drop 1 i l, add-one i)

-- the instant in the place of the number n is that of its pair
pub epoch_held : (n : ℕ) (rs : List Record) (row : List ℕ) (at : ℕ) → row ≡ row_of rs → at ≡ below n rs → (S : Standing n rs) → get_or row at 0 ≡ instant_of S.s
unfolding packed
epoch_held n rs row at e f S =
    let i : at ≡ length S.xs = f ∙ sym S.place in
    let o : at * 1 ≡ at + 0 = omega arith in
    let p = place_of_lem instant_at 1 one rs (replicate ((64 - length rs) * 1) 0) at S.s (rw (i, S.cut) (element_at S.xs S.s S.zs)) in
    let z : at + 0 ≡ at = omega arith in
    ap (λ (j : ℕ). get_or row j 0) (sym z)
    ∙ sym (get_or-drop at row 0 0)
    ∙ ap (λ (l : List ℕ). get_or (drop at l) 0 0) e
    ∙ ap (λ (j : ℕ). get_or (drop j (row_of rs)) 0 0) (let q : at ≡ at * 1 = omega arith in q)
    ∙ ap (λ (l : List ℕ). get_or l 0 0) p.1

-- ── the roster that was judged ──

abbrev bit : Bool → ℕ
bit true = 1
bit false = 0

stands_by : (n : ℕ) (rs : List Record) → View n rs → true ≡ there (lookup n rs) → Standing n rs
stands_by n rs (here S) e = S
stands_by n rs (away M) e = let z : ◌≡◌ {A = ℕ} 1 0 = ap bit (e ∙ ap there M.none_found) in absurd (omega arith)

missing_by : (n : ℕ) (rs : List Record) → View n rs → false ≡ there (lookup n rs) → Missing n rs
missing_by n rs (here S) e = let z : ◌≡◌ {A = ℕ} 0 1 = ap bit (e ∙ ap there S.found) in absurd (omega arith)
missing_by n rs (away M) e = M

module _ (n : ℕ) (b row : List ℕ) (t : Tally) (F : Found n b row t) where
  pub few : t.below ≤ 64
  few = omega (arith, F.place, F.room, below_short n F.records)

  pub S : t.present ≡ true → Standing n F.records
  S e = stands_by n F.records (view n F.rising) (sym e ∙ F.present)

  pub M : t.present ≡ false → Missing n F.records
  M e = missing_by n F.records (view n F.rising) (sym e ∙ F.present)

  pub pair_fits : t.present ≡ true → t.below * 138 + 138 ≤ length b
  pair_fits e = held_fits pair_bytes 138 length_pair n F.records b t.below F.bytes F.place (S e) F.room

  pub gap_fits : t.present ≡ false → t.count < 64 → t.below * 138 + 138 ≤ length b
  gap_fits e h = free_fits pair_bytes 138 length_pair n F.records b t.below F.bytes F.place (M e) (omega (arith, F.count))

  pub instant_fits : t.present ≡ true → t.below + 1 ≤ length row
  instant_fits e = omega (arith, held_fits instant_at 1 one n F.records row t.below F.instants F.place (S e) F.room)

  pub row_fits : t.present ≡ false → t.count < 64 → t.below + 1 ≤ length row
  row_fits e h = omega (arith, free_fits instant_at 1 one n F.records row t.below F.instants F.place (M e) (omega (arith, F.count)))

-- ── lodging a record that was read ──

abbrev pub Answers : Result Record Refusal → List ℕ → List ℕ → Result (Unit {0}) LodgingRefusal → List ℕ → List ℕ → Type 0
Answers g b row a b' row' = (a ≡ answered g (roster_with b row)) × (b' ≡ lodged_by bytes_of g (roster_with b row) b) × (row' ≡ lodged_by row_of g (roster_with b row) row)

pub refused : (r : Record) (b row : List ℕ) → roster_with b row ≡ none → Answers (Ok r) b row (Err lodging.NoRoster) b row
refused r b row e = (rw e, rw e, rw e)

module _ (r : Record) (b row : List ℕ) (t : Tally) (F : Found r.number b row t) (v : ℕ) (since : v ≡ instant_of r) where
  module _ (e : t.present ≡ true) where
    abbrev held : Standing r.number F.records
    held = S r.number b row t F e

    old : get_or row t.below 0 ≡ instant_of held.s
    old = epoch_held r.number F.records row t.below F.instants F.place held

    pub older : v < get_or row t.below 0 → Answers (Ok r) b row (Err lodging.Older) b row
    older h =
        let k = lt-ltb (instant_of r) (instant_of held.s) (omega (arith, since, old)) in
        (rw (F.roster, held.found, k), rw (F.roster, held.found, k), rw (F.roster, held.found, k))

    pub newer : (b' : List ℕ) → get_or row t.below 0 ≤ v → legal r ≡ true → b' ≡ pair_over (t.below * 138) r b → Answers (Ok r) b row (Ok tt) b' (set row t.below v)
    newer b' h l f =
        let k = le-ltb (instant_of r) (instant_of held.s) (omega (arith, since, old)) in (
          rw (F.roster, held.found, k),
          rw (F.roster, held.found, k)
              (f ∙ pair_over_lem r (t.below * 138) b l (pair_fits r.number b row t F e)
              ∙ replace pair_bytes 138 length_pair r.number F.records b t.below F.bytes F.place held F.room r refl),
          rw (F.roster, held.found, k)
              (ap (set row t.below) since ∙ set_over row t.below (instant_of r) (omega (arith, instant_fits r.number b row t F e))
              ∙ replace instant_at 1 one r.number F.records row t.below F.instants F.place held F.room r refl),
        )

  module _ (e : t.present ≡ false) where
    abbrev gap : Missing r.number F.records
    gap = M r.number b row t F e

    pub full : 64 ≤ t.count → Answers (Ok r) b row (Err lodging.Full) b row
    full h =
        let k = le-leb 64 (length F.records) (omega (arith, F.count)) in
        (rw (F.roster, gap.none_found, k), rw (F.roster, gap.none_found, k), rw (F.roster, gap.none_found, k))

    pub fresh : (m b' l : List ℕ) → t.count < 64 → legal r ≡ true → length m ≡ length b → length l ≡ length row
        → m ≡ opened (t.below * 138) 138 b → b' ≡ pair_over (t.below * 138) r m → l ≡ opened t.below 1 row
        → Answers (Ok r) b row (Ok tt) b' (set l t.below v)
    fresh m b' l h q x y p f g =
        let k = lt-leb 64 (length F.records) (omega (arith, F.count)) in
        let o : t.below ≡ t.below * 1 = omega arith in (
          rw (F.roster, gap.none_found, k),
          rw (F.roster, gap.none_found, k)
              (f ∙ pair_over_lem r (t.below * 138) m q (omega (arith, x, gap_fits r.number b row t F e h))
              ∙ ap (over (t.below * 138) 138 (pair_bytes r)) p
              ∙ insert pair_bytes 138 length_pair r.number F.records b t.below F.bytes F.place gap (omega (arith, F.count)) r refl),
          rw (F.roster, gap.none_found, k)
              (ap (set l t.below) since ∙ set_over l t.below (instant_of r) (omega (arith, y, row_fits r.number b row t F e h))
              ∙ ap (over (t.below * 1) 1 (instant_at r)) (g ∙ ap (λ (j : ℕ). opened j 1 row) o)
              ∙ insert instant_at 1 one r.number F.records row t.below F.instants F.place gap (omega (arith, F.count)) r refl),
        )

-- ── lodging two lines ──

abbrev pub Lodges : List ℕ → List ℕ → List ℕ → List ℕ → Result (Unit {0}) LodgingRefusal → List ℕ → List ℕ → Type 0
Lodges b row line1 line2 a b' row' = (a ≡ lodging_of b row line1 line2) × (b' ≡ lodged_over b row line1 line2) × (row' ≡ lodged_row b row line1 line2)

pub unread : (b row line1 line2 : List ℕ) (g : Result Record Refusal) (why : Refusal) → g ≡ read_of line1 line2 → g ≡ Err why
    → Lodges b row line1 line2 (Err (lodging.Unread why)) b row
unfolding lodging_of lodged_over lodged_row
unread b row line1 line2 g why e f = (rw (← e, f), rw (← e, f), rw (← e, f))

pub read : (b row line1 line2 : List ℕ) (g : Result Record Refusal) (r : Record) (a : Result (Unit {0}) LodgingRefusal) (b' row' : List ℕ) → g ≡ read_of line1 line2 → g ≡ Ok r
    → Answers (Ok r) b row a b' row' → Lodges b row line1 line2 a b' row'
unfolding lodging_of lodged_over lodged_row
read b row line1 line2 g r a b' row' e f l = (rw (← e, f) l.0, rw (← e, f) l.1, rw (← e, f) l.2)

-- ── withdrawing ──

abbrev pub Withdraws : ℕ → List ℕ → List ℕ → Result (Unit {0}) WithdrawalRefusal → List ℕ → List ℕ → Type 0
Withdraws n b row a b' row' = (a ≡ withdrawal_of b row n) × (b' ≡ withdrawn_over b row n) × (row' ≡ withdrawn_row b row n)

pub damaged : (n : ℕ) (b row : List ℕ) → roster_with b row ≡ none → Withdraws n b row (Err withdrawal.NoRoster) b row
unfolding withdrawal_of withdrawn_over withdrawn_row
damaged n b row e = (rw e, rw e, rw e)

module _ (n : ℕ) (b row : List ℕ) (t : Tally) (F : Found n b row t) where
  pub taken : (b' row' : List ℕ) → t.present ≡ true → b' ≡ closed (t.below * 138) 138 b → row' ≡ closed t.below 1 row
      → Withdraws n b row (Ok tt) b' row'
  unfolding withdrawal_of withdrawn_over withdrawn_row
  taken b' row' e f g =
      let s = S n b row t F e in
      let o : t.below ≡ t.below * 1 = omega arith in (
        rw (F.roster, s.found),
        rw (F.roster, s.found) (f ∙ remove pair_bytes 138 length_pair n F.records b t.below F.bytes F.place s F.room),
        rw (F.roster, s.found)
            (g ∙ ap (λ (j : ℕ). closed j 1 row) o ∙ remove instant_at 1 one n F.records row t.below F.instants F.place s F.room),
      )

  pub absent : t.present ≡ false → Withdraws n b row (Err withdrawal.Absent) b row
  unfolding withdrawal_of withdrawn_over withdrawn_row
  absent e = let g = (M n b row t F e).none_found in (rw (F.roster, g), rw (F.roster, g), rw (F.roster, g))

-- ── filling ──

abbrev pub Fills : List ℕ → List ℕ → Result (Unit {0}) FillingRefusal → List ℕ → Type 0
Fills b row a row' = (a ≡ filling_of b row) × (row' ≡ filled_row b row)

pub fill_none : (b row : List ℕ) → roster_of b ≡ none → Fills b row (Err filling.NoRoster) row
unfolding filling_of filled_row
fill_none b row e = (rw e, rw e)

module _ (b row : List ℕ) (rs : List Record) (roster : roster_of b ≡ some rs) where
  pub fill_short : (length row ≡ 64 → ⊥) → Fills b row (Err filling.NoRoster) row
  unfolding filling_of filled_row
  fill_short h = let k = ne_eqb (length row) 64 h in (rw (roster, k), rw (roster, k))

  pub fill_done : (row' : List ℕ) → length row ≡ 64 → row' ≡ row_of rs → Fills b row (Ok tt) row'
  unfolding filling_of filled_row
  fill_done row' h e = let k = eq-eqb (length row) 64 h in (rw (roster, k), rw (roster, k) e)
