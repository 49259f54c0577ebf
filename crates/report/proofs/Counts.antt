-- The numbers that are kept while pairs come in are the counts of all of them (`tally_counts`), and these add up (`adds_up`).
use Prim.Native.Nat.{ℕ, ◌+◌, ◌<◌, ◌≤◌}
use mathlib.Core.Path.{◌≡◌, refl, ap, ◌∙◌}
use mathlib.Core.List.{List, [], ◌∷◌}
use mathlib.Core.Bool.{Bool, true, false, cond}
use native.Mathlib.Omega.{arith}
use lib.Dec.{ltb}
use lib.ListN.{length}
use borrow.Author.Tests.{lt-ltb, eq-eqb, ne_eqb, ltb-false}
use Rattle.tle.specs.declared.Record as tle
use Rattle.tle.specs.declared.Refusal.{Refusal}
use Rattle.tle.specs.declared.Refusal.TheVariants.{Length, Start, Column, Checksum, Numbers, Range, NoForm}
use Rattle.tle.specs.Refusals.{number_of}
use Rattle.std.specs.Prelude.{Err, Ok, Result}
use Rattle.tle.specs.declared.Record.{Record}
use Rattle.tle.proofs.Meaning.{read_refusals}
use Rattle.report.specs.declared.Stamp.{Stamp}
use Rattle.report.specs.declared.Kind.{Kind}
use Rattle.report.specs.declared.Kind.TheVariants.{Near, Deep, Unopened}
use Rattle.report.specs.declared.Tally.{Tally}
use Rattle.report.specs.Report.{Pair, kind_of, is_near, is_deep, is_unopened, stamp_of, earlier, later, no_stamp, most_pairs, reading_of, is_accepted, is_refused, opens_near, opens_deep, opens_not, count, epoch_and, epochs_of, best, best_of, tally_of}
use Rattle.report.specs.State.{first_stamp, plus, refused_by, with_refusal, with_kind, with_reading, tallied, tally_from, no_tally}
use Rattle.report.specs.Report as R
use Rattle.report.specs.Claims.{TallyCounts, AddsUp}

-- ── a count ──

abbrev top : ℕ
top = 18446744073709551615

plus_one : (b : Bool) (n : ℕ) → n < top → plus b n ≡ n + R.one b
unfolding plus
plus_one true n h = rw (lt-ltb n top h)
plus_one false n h = omega arith

-- a number of the tally that a pair with the property raises by one is the number of such pairs
module _ (part : Tally → ℕ) (property : Result Record Refusal → Bool) (each : (t : Tally) (r : Result Record Refusal) → part (with_reading t r) ≡ plus (property r) (part t)) where
  counted : (pairs : List Pair) (t : Tally) → part t + length pairs < top → part (tally_from t pairs) ≡ part t + count property pairs
  unfolding tally_from count tallied
  counted [] t h = omega arith
  counted (p ∷ pairs) t h =
      let e : part (with_reading t (reading_of p)) ≡ part t + R.one (property (reading_of p)) = each t (reading_of p) ∙ plus_one (property (reading_of p)) (part t) (omega arith) in
      let g : R.one (property (reading_of p)) ≤ 1 = at_most (property (reading_of p)) in
      let r = counted pairs (with_reading t (reading_of p)) (omega arith) in
      omega (arith, r, e)
    where
      at_most : (b : Bool) → R.one b ≤ 1
      at_most true = omega arith
      at_most false = omega arith

  all_counted : (pairs : List Pair) → part no_tally ≡ 0 → length pairs ≤ most_pairs → part (tally_from no_tally pairs) ≡ count property pairs
  all_counted pairs z h = omega (arith, counted pairs no_tally (omega arith))

each_accepted : (t : Tally) (r : Result Record Refusal) → (with_reading t r).accepted ≡ plus (is_accepted r) t.accepted
unfolding with_reading with_kind with_refusal is_accepted plus
each_accepted t (Ok r) = refl
each_accepted t (Err why) = refl

each_near : (t : Tally) (r : Result Record Refusal) → (with_reading t r).near ≡ plus (opens_near r) t.near
unfolding with_reading with_kind with_refusal opens_near plus
each_near t (Ok r) = refl
each_near t (Err why) = refl

each_deep : (t : Tally) (r : Result Record Refusal) → (with_reading t r).deep ≡ plus (opens_deep r) t.deep
unfolding with_reading with_kind with_refusal opens_deep plus
each_deep t (Ok r) = refl
each_deep t (Err why) = refl

each_unopened : (t : Tally) (r : Result Record Refusal) → (with_reading t r).unopened ≡ plus (opens_not r) t.unopened
unfolding with_reading with_kind with_refusal opens_not plus
each_unopened t (Ok r) = refl
each_unopened t (Err why) = refl

each_one : (t : Tally) (r : Result Record Refusal) → (with_reading t r).refused.one ≡ plus (is_refused 1 r) t.refused.one
unfolding with_reading with_kind with_refusal refused_by is_refused plus
each_one t (Ok r) = refl
each_one t (Err why) = refl

each_two : (t : Tally) (r : Result Record Refusal) → (with_reading t r).refused.two ≡ plus (is_refused 2 r) t.refused.two
unfolding with_reading with_kind with_refusal refused_by is_refused plus
each_two t (Ok r) = refl
each_two t (Err why) = refl

each_three : (t : Tally) (r : Result Record Refusal) → (with_reading t r).refused.three ≡ plus (is_refused 3 r) t.refused.three
unfolding with_reading with_kind with_refusal refused_by is_refused plus
each_three t (Ok r) = refl
each_three t (Err why) = refl

each_four : (t : Tally) (r : Result Record Refusal) → (with_reading t r).refused.four ≡ plus (is_refused 4 r) t.refused.four
unfolding with_reading with_kind with_refusal refused_by is_refused plus
each_four t (Ok r) = refl
each_four t (Err why) = refl

each_five : (t : Tally) (r : Result Record Refusal) → (with_reading t r).refused.five ≡ plus (is_refused 5 r) t.refused.five
unfolding with_reading with_kind with_refusal refused_by is_refused plus
each_five t (Ok r) = refl
each_five t (Err why) = refl

each_six : (t : Tally) (r : Result Record Refusal) → (with_reading t r).refused.six ≡ plus (is_refused 6 r) t.refused.six
unfolding with_reading with_kind with_refusal refused_by is_refused plus
each_six t (Ok r) = refl
each_six t (Err why) = refl

-- ── the earliest and the latest ──

some : (n : ℕ) → plus true n ≡ 0 → ⊥
unfolding plus
some n e = by (ltb n top) refl e
  where
    by : (t : Bool) → ltb n top ≡ t → cond t (n + 1) n ≡ 0 → ⊥
    by true q d = omega arith
    by false q d = omega (arith, ltb-false n top q)

-- an epoch of the tally, kept by a rule that prefers one of two
module _ (part : Tally → Stamp) (better : Stamp → Stamp → Stamp) (itself : (s : Stamp) → better s s ≡ s)
    (each : (t : Tally) (r : tle.Record) → part (with_reading t (Ok r)) ≡ better (first_stamp t.accepted (part t) (stamp_of r)) (stamp_of r))
    (same : (t : Tally) (why : Refusal) → part (with_reading t (Err why)) ≡ part t) where
  -- after an accepted pair
  kept_by : (r : Result Record Refusal) (t : Tally) (stamps : List Stamp) → (t.accepted ≡ 0 → ⊥)
      → best better (part (with_reading t r)) stamps ≡ best better (part t) (epoch_and r stamps)
  unfolding best first_stamp
  kept_by (Ok r) t stamps h = ap (λ s. best better s stamps) (each t r ∙ rw (ne_eqb t.accepted 0 h))
  kept_by (Err why) t stamps h = ap (λ s. best better s stamps) (same t why)

  still : (r : Result Record Refusal) (t : Tally) → (t.accepted ≡ 0 → ⊥) → (with_reading t r).accepted ≡ 0 → ⊥
  unfolding with_reading with_kind with_refusal
  still (Ok r) t h = some t.accepted
  still (Err why) t h = h

  kept : (pairs : List Pair) (t : Tally) → (t.accepted ≡ 0 → ⊥) → part (tally_from t pairs) ≡ best better (part t) (epochs_of pairs)
  unfolding tally_from tallied epochs_of best
  kept [] t h = refl
  kept (p ∷ pairs) t h =
      kept pairs (with_reading t (reading_of p)) (still (reading_of p) t h) ∙ kept_by (reading_of p) t (epochs_of pairs) h

  -- before the first one
  first_by : (r : Result Record Refusal) (t : Tally) (pairs : List Pair) → t.accepted ≡ 0 → part t ≡ no_stamp
      → ((with_reading t r).accepted ≡ 0 → part (with_reading t r) ≡ no_stamp → part (tally_from (with_reading t r) pairs) ≡ best_of better (epochs_of pairs))
      → part (tally_from (with_reading t r) pairs) ≡ best_of better (epoch_and r (epochs_of pairs))
  unfolding with_reading with_kind with_refusal best_of first_stamp
  first_by (Ok r) t pairs z e h =
      kept pairs (with_reading t (Ok r)) (some t.accepted)
      ∙ ap (λ s. best better s (epochs_of pairs)) (each t r ∙ rw (eq-eqb t.accepted 0 z) (itself (stamp_of r)))
  first_by (Err why) t pairs z e h = h z (same t why ∙ e)

  first_kept : (pairs : List Pair) (t : Tally) → t.accepted ≡ 0 → part t ≡ no_stamp → part (tally_from t pairs) ≡ best_of better (epochs_of pairs)
  unfolding tally_from tallied epochs_of best_of
  first_kept [] t z e = e
  first_kept (p ∷ pairs) t z e = first_by (reading_of p) t pairs z e (λ y g. first_kept pairs (with_reading t (reading_of p)) y g)

either : (t : Bool) (s : Stamp) → cond t s s ≡ s
either true s = refl
either false s = refl

earlier_itself : (s : Stamp) → earlier s s ≡ s
unfolding earlier
earlier_itself s = either (ltb s.at s.at) s

later_itself : (s : Stamp) → later s s ≡ s
unfolding later
later_itself s = either (ltb s.at s.at) s

each_earliest : (t : Tally) (r : tle.Record) → (with_reading t (Ok r)).earliest ≡ earlier (first_stamp t.accepted t.earliest (stamp_of r)) (stamp_of r)
unfolding with_reading with_kind
each_earliest t r = refl

each_latest : (t : Tally) (r : tle.Record) → (with_reading t (Ok r)).latest ≡ later (first_stamp t.accepted t.latest (stamp_of r)) (stamp_of r)
unfolding with_reading with_kind
each_latest t r = refl

same_earliest : (t : Tally) (why : Refusal) → (with_reading t (Err why)).earliest ≡ t.earliest
unfolding with_reading with_refusal
same_earliest t why = refl

same_latest : (t : Tally) (why : Refusal) → (with_reading t (Err why)).latest ≡ t.latest
unfolding with_reading with_refusal
same_latest t why = refl

pub tally_counts : TallyCounts
unfolding tally_of
tally_counts pairs h = λ i. record {
  accepted = all_counted (λ t. t.accepted) is_accepted each_accepted pairs refl h i;
  refused = record {
    one = all_counted (λ t. t.refused.one) (is_refused 1) each_one pairs refl h i;
    two = all_counted (λ t. t.refused.two) (is_refused 2) each_two pairs refl h i;
    three = all_counted (λ t. t.refused.three) (is_refused 3) each_three pairs refl h i;
    four = all_counted (λ t. t.refused.four) (is_refused 4) each_four pairs refl h i;
    five = all_counted (λ t. t.refused.five) (is_refused 5) each_five pairs refl h i;
    six = all_counted (λ t. t.refused.six) (is_refused 6) each_six pairs refl h i;
  };
  near = all_counted (λ t. t.near) opens_near each_near pairs refl h i;
  deep = all_counted (λ t. t.deep) opens_deep each_deep pairs refl h i;
  unopened = all_counted (λ t. t.unopened) opens_not each_unopened pairs refl h i;
  earliest = first_kept (λ t. t.earliest) earlier earlier_itself each_earliest same_earliest pairs no_tally refl refl i;
  latest = first_kept (λ t. t.latest) later later_itself each_latest same_latest pairs no_tally refl refl i;
}

-- ── the headings ──

abbrev sum : Result Record Refusal → ℕ
sum r = R.one (is_accepted r)
    + (R.one (is_refused 1 r) + (R.one (is_refused 2 r) + (R.one (is_refused 3 r)
    + (R.one (is_refused 4 r) + (R.one (is_refused 5 r) + R.one (is_refused 6 r))))))

-- of a reading that is refused with 1 to 6 alone
one_heading : (r : Result Record Refusal) → ((why : Refusal) → r ≡ Err why → number_of why ≤ 6) → sum r ≡ 1
unfolding is_accepted is_refused
one_heading (Ok r) h = refl
one_heading (Err (Length l)) h = refl
one_heading (Err (Start l)) h = refl
one_heading (Err (Column l k)) h = refl
one_heading (Err (Checksum l)) h = refl
one_heading (Err Numbers) h = refl
one_heading (Err (Range f)) h = refl
one_heading (Err NoForm) h = absurd (omega (arith, h NoForm refl))

kind_heading : (k : Kind) → R.one (is_near k) + (R.one (is_deep k) + R.one (is_unopened k)) ≡ 1
unfolding is_near is_deep is_unopened
kind_heading Near = refl
kind_heading Deep = refl
kind_heading Unopened = refl

open_heading : (r : Result Record Refusal) → R.one (opens_near r) + (R.one (opens_deep r) + R.one (opens_not r)) ≡ R.one (is_accepted r)
unfolding is_accepted opens_near opens_deep opens_not
open_heading (Ok r) = kind_heading (kind_of r)
open_heading (Err why) = refl

pub adds_up : (pairs : List Pair) → AddsUp (tally_of pairs) pairs
unfolding count tally_of
adds_up [] = record { all = refl; opened = refl }
adds_up (p ∷ pairs) =
    let r = adds_up pairs in
    record {
      all = omega (arith, r.all, one_heading (reading_of p) (read_refusals p.first p.second));
      opened = omega (arith, r.opened, open_heading (reading_of p));
    }
