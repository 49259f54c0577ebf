-- The earliest and the latest epoch are epochs of accepted pairs, and none lies outside them (`bounds`); the instants of accepted pairs.
use Prim.Native.Nat.{ℕ, zero, suc, ◌+◌, ◌<◌, ◌≤◌}
use mathlib.Core.Path.{◌≡◌, refl, sym, ap, ◌∙◌, subst}
use mathlib.Core.List.{List, [], ◌∷◌}
use mathlib.Core.Bool.{Bool, true, false, cond}
use native.Mathlib.Omega.{arith}
use lib.Dec.{ltb}
use lib.ListN.{length, get_or}
use borrow.Author.Tests.{ltb-true, ltb-false}
use Rattle.tle.specs.declared.Record as tle
use Rattle.std.specs.Prelude.{Err, Ok, Result}
use Rattle.tle.specs.declared.Record.{Record}
use Rattle.tle.specs.declared.Refusal.{Refusal}
use Rattle.tle.proofs.Accepted.{accepted_are_legal, epochs_inside}
use Rattle.report.specs.declared.Stamp.{Stamp}
use Rattle.report.specs.Report.{Pair, reading_of, is_accepted, one, count, instant_of, stamp_of, earlier, later, no_stamp, epoch_and, epochs_of, best, best_of, span_of, tally_of}
use Rattle.report.specs.Claims.{AcceptedAt, EpochOf, Bounds, StampsAreInstants}

-- ── the epochs of pairs ──

-- an epoch of the list is that of an accepted pair
further : {pairs : List Pair} {s : Stamp} (p : Pair) → EpochOf pairs s → EpochOf (p ∷ pairs) s
further p e = record {
  place = suc e.place;
  of = e.of;
  accepted = record { inside = omega (arith, e.accepted.inside); is = e.accepted.is };
  is = e.is;
}

found_by_lem : (x : Result Record Refusal) (p : Pair) (pairs : List Pair) → reading_of p ≡ x
    → ((k : ℕ) → k < length (epochs_of pairs) → EpochOf pairs (get_or (epochs_of pairs) k no_stamp))
    → (k : ℕ) → k < length (epoch_and x (epochs_of pairs)) → EpochOf (p ∷ pairs) (get_or (epoch_and x (epochs_of pairs)) k no_stamp)
found_by_lem (Ok r) p pairs e rest zero h = record { place = 0; of = r; accepted = record { inside = omega arith; is = e }; is = refl }
found_by_lem (Ok r) p pairs e rest (suc k) h = further p (rest k (omega arith))
found_by_lem (Err why) p pairs e rest k h = further p (rest k h)

found : (pairs : List Pair) (k : ℕ) → k < length (epochs_of pairs) → EpochOf pairs (get_or (epochs_of pairs) k no_stamp)
unfolding epochs_of
found [] k h = absurd (omega arith)
found (p ∷ pairs) k h = found_by_lem (reading_of p) p pairs refl (λ j g. found pairs j g) k h

-- and every accepted pair has its epoch in the list
record Listed (stamps : List Stamp) (s : Stamp) : Type 0 where
  place : ℕ
  inside : place < length stamps
  is : get_or stamps place no_stamp ≡ s

past : {stamps : List Stamp} {s : Stamp} (x : Result Record Refusal) → Listed stamps s → Listed (epoch_and x stamps) s
past (Ok r) l = record { place = suc l.place; inside = omega (arith, l.inside); is = l.is }
past (Err why) l = l

listed : (pairs : List Pair) (place : ℕ) (r : tle.Record) → AcceptedAt pairs place r → Listed (epochs_of pairs) (stamp_of r)
unfolding epochs_of
listed [] place r a = absurd (omega (arith, a.inside))
listed (p ∷ pairs) zero r a = rw a.is (record { place = 0; inside = omega arith; is = refl })
listed (p ∷ pairs) (suc k) r a = past (reading_of p) (listed pairs k r (record { inside = omega (arith, a.inside); is = a.is }))

counted_by : (x : Result Record Refusal) (stamps : List Stamp) (n : ℕ) → length stamps ≡ n → length (epoch_and x stamps) ≡ one (is_accepted x) + n
unfolding is_accepted
counted_by (Ok r) stamps n e = omega arith
counted_by (Err why) stamps n e = omega arith

epochs_counted : (pairs : List Pair) → length (epochs_of pairs) ≡ count is_accepted pairs
unfolding epochs_of count
epochs_counted [] = refl
epochs_counted (p ∷ pairs) = counted_by (reading_of p) (epochs_of pairs) (count is_accepted pairs) (epochs_counted pairs)

-- ── the best of a list ──

-- one of the list, and no other is better
record Best (order : Stamp → Stamp → Type 0) (stamps : List Stamp) (r : Stamp) : Type 0 where
  place : ℕ
  inside : place < length stamps
  is : r ≡ get_or stamps place no_stamp
  least : (k : ℕ) → k < length stamps → order r (get_or stamps k no_stamp)

-- which of two a rule takes, and that it is no worse than either
record Takes (order : Stamp → Stamp → Type 0) (a b r : Stamp) : Type 0 where
  which : Bool
  is : r ≡ cond which b a
  first : order r a
  second : order r b

module _ (order : Stamp → Stamp → Type 0) (itself : (a : Stamp) → order a a) (through : (a b c : Stamp) → order a b → order b c → order a c)
    (better : Stamp → Stamp → Stamp) (takes : (a b : Stamp) → Takes order a b (better a b)) where
  two : (stamps : List Stamp) (s x r : Stamp) (k : ℕ) → order r (better s x) → ((j : ℕ) → j < suc (length stamps) → order r (get_or (better s x ∷ stamps) j no_stamp))
      → k < suc (suc (length stamps)) → order r (get_or (s ∷ x ∷ stamps) k no_stamp)
  two stamps s x r zero h all l = through r (better s x) s h (takes s x).first
  two stamps s x r (suc zero) h all l = through r (better s x) x h (takes s x).second
  two stamps s x r (suc (suc k)) h all l = all (suc k) (omega arith)

  moved : (w : Bool) (stamps : List Stamp) (s x r : Stamp) (p : ℕ) → p < suc (length stamps) → better s x ≡ cond w x s
      → r ≡ get_or (better s x ∷ stamps) p no_stamp → ((k : ℕ) → k < suc (suc (length stamps)) → order r (get_or (s ∷ x ∷ stamps) k no_stamp))
      → Best order (s ∷ x ∷ stamps) r
  moved true stamps s x r zero h w e all = record { place = 1; inside = omega arith; is = e ∙ w; least = all }
  moved false stamps s x r zero h w e all = record { place = 0; inside = omega arith; is = e ∙ w; least = all }
  moved b stamps s x r (suc p) h w e all = record { place = suc (suc p); inside = omega arith; is = e; least = all }

  next : (stamps : List Stamp) (s x r : Stamp) → Best order (better s x ∷ stamps) r → Best order (s ∷ x ∷ stamps) r
  next stamps s x r b =
      let t = takes s x in
      moved t.which stamps s x r b.place b.inside t.is b.is (λ k l. two stamps s x r k (b.least 0 (omega arith)) b.least l)

  alone : (s : Stamp) (k : ℕ) → k < 1 → order s (get_or (s ∷ []) k no_stamp)
  alone s zero l = itself s
  alone s (suc k) l = absurd (omega arith)

  is_best : (stamps : List Stamp) (s : Stamp) → Best order (s ∷ stamps) (best better s stamps)
  unfolding best
  is_best [] s = record { place = 0; inside = omega arith; is = refl; least = alone s }
  is_best (x ∷ stamps) s = next stamps s x (best better (better s x) stamps) (is_best stamps (better s x))

  best_of_lem : (stamps : List Stamp) → 0 < length stamps → Best order stamps (best_of better stamps)
  unfolding best_of
  best_of_lem [] h = absurd (omega arith)
  best_of_lem (s ∷ stamps) h = is_best stamps s

  module _ (pairs : List Pair) (h : 0 < length (epochs_of pairs)) where
    chosen : EpochOf pairs (best_of better (epochs_of pairs))
    chosen = let b = best_of_lem (epochs_of pairs) h in subst (λ (s : Stamp). EpochOf pairs s) (sym b.is) (found pairs b.place b.inside)

    none_better : (place : ℕ) (r : tle.Record) → AcceptedAt pairs place r → order (best_of better (epochs_of pairs)) (stamp_of r)
    none_better place r a =
        let l = listed pairs place r a in
        subst (λ (s : Stamp). order (best_of better (epochs_of pairs)) s) l.is ((best_of_lem (epochs_of pairs) h).least l.place l.inside)

abbrev before : Stamp → Stamp → Type 0
before a b = a.at ≤ b.at

abbrev after : Stamp → Stamp → Type 0
after a b = b.at ≤ a.at

earlier_takes : (a b : Stamp) → Takes before a b (earlier a b)
unfolding earlier
earlier_takes a b = by (ltb b.at a.at) refl
  where
    by : (t : Bool) → ltb b.at a.at ≡ t → Takes before a b (cond t b a)
    by true q = record { which = true; is = refl; first = omega (arith, ltb-true b.at a.at q); second = omega arith }
    by false q = record { which = false; is = refl; first = omega arith; second = ltb-false b.at a.at q }

later_takes : (a b : Stamp) → Takes after a b (later a b)
unfolding later
later_takes a b = by (ltb a.at b.at) refl
  where
    by : (t : Bool) → ltb a.at b.at ≡ t → Takes after a b (cond t b a)
    by true q = record { which = true; is = refl; first = omega (arith, ltb-true a.at b.at q); second = omega arith }
    by false q = record { which = false; is = refl; first = omega arith; second = ltb-false a.at b.at q }

pub bounds : (pairs : List Pair) → 0 < count is_accepted pairs → Bounds (tally_of pairs) pairs
unfolding tally_of
bounds pairs h =
    let g : 0 < length (epochs_of pairs) = omega (arith, epochs_counted pairs) in
    record {
      earliest = chosen before (λ a. omega arith) (λ a b c p q. omega arith) earlier earlier_takes pairs g;
      latest = chosen after (λ a. omega arith) (λ a b c p q. omega arith) later later_takes pairs g;
      none_outside = λ place r a. (
        none_better before (λ a. omega arith) (λ a b c p q. omega arith) earlier earlier_takes pairs g place r a,
        none_better after (λ a. omega arith) (λ a b c p q. omega arith) later later_takes pairs g place r a,
      );
    }

-- one epoch is both
single : (stamps : List Stamp) → length stamps ≡ 1 → span_of (best_of earlier stamps) (best_of later stamps) ≡ 0
unfolding best_of best span_of
single [] h = absurd (omega arith)
single (s ∷ []) h = omega arith
single (s ∷ x ∷ stamps) h = absurd (omega arith)

pub one_accepted : (pairs : List Pair) → count is_accepted pairs ≡ 1 → span_of (best_of earlier (epochs_of pairs)) (best_of later (epochs_of pairs)) ≡ 0
one_accepted pairs h = single (epochs_of pairs) (epochs_counted pairs ∙ h)

pub stamps_are_instants : StampsAreInstants
unfolding stamp_of instant_of
stamps_are_instants p r e = ap instant_of (epochs_inside r (accepted_are_legal p.first p.second r e))
