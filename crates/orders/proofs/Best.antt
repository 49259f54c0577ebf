-- Wish 14: of a satellite newly opened from two accepted lines, and a list of in-range times that is not refused.
use mathlib.Core.Path.{◌≡◌, ap, ◌∙◌}
use mathlib.Core.List.{List, [], ◌∷◌, map}
use Prim.Native.Nat.{ℕ, ◌≤◌}
use native.Mathlib.Omega.{arith}
use lib.ListN.{length, get_or}
use lib.IntN.{ℤ}
use Rattle.resonance.specs.declared.place.Side.{Side}
use Rattle.resonance.specs.declared.place.Side.TheVariants.{Forward, Back}
use Rattle.resonance.specs.Place.{epoch_of}
use Rattle.sgp4.specs.declared.Row.{Row}
use Rattle.sgp4.specs.Sgp4.{integrator_of}
use Rattle.tle.specs.declared.Record.{Record}
use Rattle.std.specs.Prelude.{Ok}
use Rattle.tle.specs.Read.{read_of}
use Rattle.opening.specs.declared.opening.Satellite.{Satellite}
use Rattle.opening.specs.Opening.{open_of}
use Rattle.requests.specs.Lists.{list_refusal, list_times, listed}
use Rattle.sequences.specs.Demand3.{Many, outcome, sum, none, counts_of, row_alone}
use Rattle.sequences.proofs.Demand3.{from_epoch, opened_place}
use Rattle.outward_order.specs.Order.{best_order}
use Rattle.orders.specs.Places.{Places, Rearranged}
use Rattle.orders.specs.Best.{AllInRange, both_sides, OutwardFrom, BestOrder}
use Rattle.orders.proofs.Counts.{at_least, exactly}
use Rattle.orders.proofs.Moving.{map_rearranged, range_rearranged, farthest_rearranged}
use Rattle.orders.proofs.Sorting.{outward_order}
use Rattle.orders.proofs.Ordered.{best_ordered}

-- ── what demand 3 says of one list that is not refused ──

module _ (s : Satellite) (e : s.place ≡ epoch_of (integrator_of s.model)) (us : List ℤ) (a b c : ℕ) (h : list_refusal (length us) a b c ≡ 0) where
  all_times : list_times us a b c ≡ us
  all_times = rw h

  pub strides : (listed s us a b c).strides.0 ≡ counts_of (integrator_of s.model) none us
  strides =
      let k : (listed s us a b c).strides.0 ≡ counts_of (integrator_of s.model) none (list_times us a b c) = omega (arith, ap sum (from_epoch s e (Many us a b c ∷ [])).counts) in
      k ∙ ap (counts_of (integrator_of s.model) none) all_times

  pub row_list : (outcome s (Many us a b c)).rows ≡ map (row_alone s) us
  row_list =
      ap (λ (z : List (List Row)). get_or z 0 []) (from_epoch s e (Many us a b c ∷ [])).rows ∙ ap (map (row_alone s)) all_times

-- ── of a satellite that stands at its epoch ──

module _ (s : Satellite) (e : s.place ≡ epoch_of (integrator_of s.model)) (ts : List ℤ) (a b c : ℕ) (r : AllInRange ts) (h : list_refusal (length ts) a b c ≡ 0) where
  taken : (p : Places (length ts)) (us : List ℤ) → Rearranged (length ts) p ts us → list_refusal (length us) a b c ≡ 0
  taken p us m = ap (λ (n : ℕ). list_refusal n a b c) m.size' ∙ h

  rows : (p : Places (length ts)) (us : List ℤ) → Rearranged (length ts) p ts us
      → Rearranged (length ts) p (outcome s (Many ts a b c)).rows (outcome s (Many us a b c)).rows
  rows p us m = rw (row_list s e ts a b c h, row_list s e us a b c (taken p us m)) (map_rearranged (row_alone s) (length ts) p ts us m)

  both_same : (p : Places (length ts)) (us : List ℤ) → Rearranged (length ts) p ts us → both_sides s us ≡ both_sides s ts
  both_same p us m = rw (farthest_rearranged (length ts) p ts us m Forward, farthest_rearranged (length ts) p ts us m Back)

  least : (p : Places (length ts)) (us : List ℤ) → Rearranged (length ts) p ts us → both_sides s ts ≤ (listed s us a b c).strides.0
  least p us m =
      omega (
        arith,
        at_least (integrator_of s.model) us (range_rearranged (length ts) p ts us m r),
        both_same p us m,
        strides s e us a b c (taken p us m),
      )

  outward : (p : Places (length ts)) (us : List ℤ) → Rearranged (length ts) p ts us → (d : Side) → OutwardFrom d us → (listed s us a b c).strides.0 ≡ both_sides s ts
  outward p us m d o =
      strides s e us a b c (taken p us m) ∙ exactly (integrator_of s.model) d us o (range_rearranged (length ts) p ts us m r) ∙ both_same p us m

  best : (listed s (best_order ts) a b c).strides.0 ≡ both_sides s ts
  best = let q = best_ordered ts in outward q.0 (best_order ts) q.1 Forward q.2

  from_epoch_best : BestOrder s ts a b c
  from_epoch_best =
      record {
        taken = taken;
        rows = rows;
        least = least;
        outward = outward;
        attained = λ d. outward_order d ts;
        ordered = best_ordered ts;
        best = best;
      }

pub best_order_lem : (line1 line2 : List ℕ) (r : Record) (s : Satellite) → read_of line1 line2 ≡ Ok r → open_of r ≡ Ok s
    → (ts : List ℤ) (a b c : ℕ) → AllInRange ts → (listed s ts a b c).refusal ≡ 0 → BestOrder s ts a b c
best_order_lem line1 line2 r s reads opens ts a b c w h = from_epoch_best s (opened_place r s opens) ts a b c w h
