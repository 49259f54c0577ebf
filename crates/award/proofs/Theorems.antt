-- The claims of specs/Claims.antt.
use Prim.Native.Nat.{ℕ, zero, suc, ◌+◌, ◌*◌, ◌<◌, ◌≤◌}
use mathlib.Core.Path.{◌≡◌, refl, sym, ap}
use mathlib.Core.Bool.{Bool, true, false, cond, not, ◌&&◌, ◌||◌, or_comm}
use mathlib.Core.List.{List}
use native.Mathlib.Omega.{arith}
use lib.Dec.{leb, ltb, eqb}
use lib.ListN.{length}
use borrow.Author.Tests.{ltb-true, ltb-false, leb-true, leb-false, eqb-true, eqb-false, eq-eqb, ne_eqb, le-leb, lt-leb, lt-ltb, le-ltb, not-false}
use Rattle.instant.specs.Calendar.{in_calendar}
use Rattle.award.specs.declared.Offer.{Offer}
use Rattle.std.specs.Prelude.{Err, Ok, Result}
use Rattle.award.specs.declared.AwardRefusal.{AwardRefusal}
use Rattle.award.specs.declared.AwardRefusal.TheVariants as answer
use Rattle.award.specs.Plan.{first, among, offer_count, offer_at, entry_at, named, most_cents, second_micros, sound, unsound, missing, names, repeated, before, clash, clash_with, clashing, sum_below, bid_at, total_of, refusing, most, answer_of}
use Rattle.award.specs.Acceptable.{Sound, Clash, Acceptable, Holds}
use Rattle.award.specs.Claims.{Told, AcceptedExactly, ClashIsSymmetric, OneSlotAtOnce, SumsFit}
use Rattle.award.proofs.First.{none, all, not_among}
use Rattle.award.proofs.Stages.{accepted}

-- ── the tests tell what the statements say ──

four : (a b c d : Bool) → a && (b && (c && d)) ≡ true → (a ≡ true) × (b ≡ true) × (c ≡ true) × (d ≡ true)
four true true true true e = (refl, refl, refl, refl)
four true true true false e = let z : ◌≡◌ {A = ℕ} 0 1 = cc in absurd (omega arith)
four true true false d e = let z : ◌≡◌ {A = ℕ} 0 1 = cc in absurd (omega arith)
four true false c d e = let z : ◌≡◌ {A = ℕ} 0 1 = cc in absurd (omega arith)
four false b c d e = let z : ◌≡◌ {A = ℕ} 0 1 = cc in absurd (omega arith)

sound_only : (o : Offer) → sound o ≡ true → Sound o
unfolding sound
sound_only o e =
    let f = four (in_calendar o.start) (in_calendar o.end) (ltb o.start o.end) (leb o.bid most_cents) e in
    record { starts_inside = f.0; ends_inside = f.1; ends_later = ltb-true o.start o.end f.2; bid_allowed = leb-true o.bid most_cents f.3 }

sound_always : (o : Offer) → Sound o → sound o ≡ true
unfolding sound
sound_always o s = rw (s.starts_inside, s.ends_inside, lt-ltb o.start o.end s.ends_later, le-leb o.bid most_cents s.bid_allowed)

three : (a t u : Bool) → a && not (t || u) ≡ true → (a ≡ true) × (t ≡ false) × (u ≡ false)
three true false false e = (refl, refl, refl)
three true false true e = let z : ◌≡◌ {A = ℕ} 0 1 = cc in absurd (omega arith)
three true true u e = let z : ◌≡◌ {A = ℕ} 0 1 = cc in absurd (omega arith)
three false t u e = let z : ◌≡◌ {A = ℕ} 0 1 = cc in absurd (omega arith)

above : {a b : ℕ} → b < a → a ≤ b → ⊥
above h g = omega arith

below : {a b : ℕ} → (a ≤ b → ⊥) → leb a b ≡ false
below {a} {b} h = by (leb a b) refl
  where
    by : (t : Bool) → leb a b ≡ t → t ≡ false
    by true q = absurd (h (leb-true a b q))
    by false q = refl

clash_only : (w : ℕ) (p q : Offer) → clash w p q ≡ true → Clash w p q
unfolding clash before
clash_only w p q e =
    let f = three (eqb p.antenna q.antenna) (leb (p.end + w * second_micros) q.start) (leb (q.end + w * second_micros) p.start) e in
    record {
      one_antenna = eqb-true p.antenna q.antenna f.0;
      not_before = above (leb-false (p.end + w * second_micros) q.start f.1);
      not_after = above (leb-false (q.end + w * second_micros) p.start f.2);
    }

clash_always : (w : ℕ) (p q : Offer) → Clash w p q → clash w p q ≡ true
unfolding clash before
clash_always w p q c = rw (eq-eqb p.antenna q.antenna c.one_antenna, below c.not_before, below c.not_after)

pub told : Told
told = record { sound_only = sound_only; sound_always = sound_always; clash_only = clash_only; clash_always = clash_always }

no_clash : (w : ℕ) (p q : Offer) → clash w p q ≡ false → Clash w p q → ⊥
no_clash w p q e c = let t = clash_always w p q c in let z : ◌≡◌ {A = ℕ} 0 1 = cc in omega arith

clash_free : (w : ℕ) (p q : Offer) → (Clash w p q → ⊥) → clash w p q ≡ false
clash_free w p q h = by (clash w p q) refl
  where
    by : (t : Bool) → clash w p q ≡ t → t ≡ false
    by true e = absurd (h (clash_only w p q e))
    by false e = refl

-- ── clash ──

same_test : (a b : ℕ) → eqb a b ≡ eqb b a
same_test a b = by (eqb a b) refl
  where
    by : (t : Bool) → eqb a b ≡ t → t ≡ eqb b a
    by true q = sym (eq-eqb b a (sym (eqb-true a b q)))
    by false q = sym (ne_eqb b a (λ e. eqb-false a b q (sym e)))

pub clash_symmetric : ClashIsSymmetric
unfolding clash
clash_symmetric w p q =
    rw (same_test p.antenna q.antenna, or_comm (before w p.end q.start) (before w q.end p.start))

-- two slots with an instant in common lie neither before nor after each other
no_instant : (w : ℕ) (p q : Offer) → p.antenna ≡ q.antenna → (Clash w p q → ⊥) → (t : ℕ) → Holds p t → Holds q t → ⊥
no_instant w p q e c t h g =
    c (record { one_antenna = e; not_before = λ b. late p.end q.start w b h.until g.from; not_after = λ b. late q.end p.start w b g.until h.from })
  where
    late : (x y v : ℕ) → x + v * second_micros ≤ y → t < x → y ≤ t → ⊥
    late x y v b k l = omega arith

-- ── accepted exactly ──

-- a pass that does not refuse has found no fault
passed : (f : ℕ → Bool) (n : ℕ) (r : ℕ → AwardRefusal) (next : Result (Unit {0}) AwardRefusal) → ((k : ℕ) → ◌≡◌ {A = Result (Unit {0}) AwardRefusal} (Err (r k)) (Ok tt) → ⊥) → refusing f n r next ≡ Ok tt
    → (first f n ≡ n) × (next ≡ Ok tt)
passed f n r next h e = by (among f n) refl e
  where
    by : (t : Bool) → among f n ≡ t → cond t (Err (r (first f n))) next ≡ Ok tt → (first f n ≡ n) × (next ≡ Ok tt)
    by true q d = absurd (h _ d)
    by false q d = (not_among f n q, d)

few_by : (t u : Bool) (next : Result (Unit {0}) AwardRefusal) → cond (t || u) (Err answer.TooMany) next ≡ Ok tt → (t ≡ false) × ((u ≡ false) × (next ≡ Ok tt))
few_by true u next e = let z : ◌≡◌ {A = ℕ} 0 1 = cc in absurd (omega arith)
few_by false true next e = let z : ◌≡◌ {A = ℕ} 0 1 = cc in absurd (omega arith)
few_by false false next e = (refl, (refl, e))

total_by : (t : Bool) → cond {A = Result (Unit {0}) AwardRefusal} t (Ok tt) (Err answer.WrongTotal) ≡ Ok tt → t ≡ true
total_by true e = refl
total_by false e = cc

only : (offers entries : List ℕ) (total turnaround : ℕ) → answer_of offers entries total turnaround ≡ Ok tt → Acceptable offers entries total turnaround
unfolding answer_of repeated clashing
only offers entries total w e =
    let n = offer_count offers in
    let m = length entries in
    let f = few_by (ltb most n) (ltb most m) _ e in
    let u = passed (λ k. unsound (offer_at offers k)) n answer.Unsound _ (λ k d. let z : ◌≡◌ {A = ℕ} 0 1 = cc in omega arith) f.1.1 in
    let v = passed (λ i. missing n entries i) m answer.NoSuchOffer _ (λ k d. let z : ◌≡◌ {A = ℕ} 0 1 = cc in omega arith) u.1 in
    let r = passed (λ i. repeated entries i) m answer.NamedTwice _ (λ k d. let z : ◌≡◌ {A = ℕ} 0 1 = cc in omega arith) v.1 in
    let c = passed (λ i. clashing offers entries w i) m answer.Clash _ (λ k d. let z : ◌≡◌ {A = ℕ} 0 1 = cc in omega arith) r.1 in
    record {
      few_offers = ltb-false most n f.0;
      few_entries = ltb-false most m f.1.0;
      all_sound = λ k h. sound_only _ (not-false _ (none (λ k. unsound (offer_at offers k)) n u.0 k h));
      all_exist = λ i h. leb-false n _ (none (λ i. missing n entries i) m v.0 i h);
      none_twice = λ i j h l.
          eqb-false _ _ (none (λ j. names entries (entry_at entries i) j) i (not_among (λ j. names entries (entry_at entries i) j) i (none (λ i. repeated entries i) m r.0 i h)) j l);
      none_clash = λ i j h l.
          no_clash _ _ _ (none (λ j. clash_with offers entries w i j) i (not_among (λ j. clash_with offers entries w i j) i (none (λ i. clashing offers entries w i) m c.0 i h)) j l);
      right_total = eqb-true (total_of offers entries) total (total_by (eqb (total_of offers entries) total) c.1);
    }

always : (offers entries : List ℕ) (total turnaround : ℕ) → Acceptable offers entries total turnaround → answer_of offers entries total turnaround ≡ Ok tt
unfolding repeated clashing
always offers entries total w a =
    let n = offer_count offers in
    let m = length entries in
    let u = all (λ k. unsound (offer_at offers k)) n (λ k h. ap not (sound_always _ (a.all_sound k h))) in
    let v = all (λ i. missing n entries i) m (λ i h. lt-leb n _ (a.all_exist i h)) in
    let r = all (λ i. repeated entries i) m (λ i h. empty (λ j. names entries (entry_at entries i) j) i (λ j l. ne_eqb _ _ (a.none_twice i j h l))) in
    let c = all (λ i. clashing offers entries w i) m (λ i h. empty (λ j. clash_with offers entries w i j) i (λ j l. clash_free _ _ _ (a.none_clash i j h l))) in
    sym (accepted offers entries total w a.few_offers a.few_entries (sym u) (omega arith) (sym v) (omega arith) (sym r) (omega arith) (sym c) (omega arith) refl
    a.right_total)
  where
    empty : (f : ℕ → Bool) (n : ℕ) → ((k : ℕ) → k < n → f k ≡ false) → among f n ≡ false
    empty f n h = let e : first f n ≡ n = all f n h in le-ltb (first f n) n (omega arith)

pub accepted_exactly : AcceptedExactly
accepted_exactly = record { only = only; always = always }

-- ── one slot at once ──

pub one_slot_at_once : OneSlotAtOnce
one_slot_at_once offers entries total w e i j h g d s t p q = by (ltb j i) refl
  where
    a : Acceptable offers entries total w
    a = only offers entries total w e

    by : (b : Bool) → ltb j i ≡ b → ⊥
    by true z = no_instant w (named offers entries i) (named offers entries j) s (a.none_clash i j h (ltb-true j i z)) t p q
    by false z =
        let l : i ≤ j = ltb-false j i z in
        let k : i < j = less d l in
        no_instant w (named offers entries j) (named offers entries i) (sym s) (a.none_clash j i g k) t q p
      where
        less : {x y : ℕ} → (x ≡ y → ⊥) → x ≤ y → x < y
        less {x} {y} d l = omega arith

-- ── no sum overflows ──

bounded : (f : ℕ → ℕ) (n : ℕ) → ((j : ℕ) → j < n → f j ≤ most_cents) → (i : ℕ) → i ≤ n → sum_below f i ≤ i * most_cents
unfolding sum_below
bounded f n h zero l = omega arith
bounded f n h (suc i) l = omega (arith, bounded f n h i (omega arith), h i (omega arith))

pub sums_fit : SumsFit
sums_fit offers entries few s e i h =
    let b = bounded (λ j. bid_at offers entries j) (length entries) (λ j l. (s _ (e j l)).bid_allowed) i h in
    omega arith
