-- Wish 14, "The best order is outward", as one claim about a satellite newly opened and a list of in-range times that is not refused. Definitions only.
-- The theorem is `best_order_lem` of proofs/Best: for any two lines, where reading them gives a record and opening it gives a satellite s, `BestOrder s ts a b c`
-- holds of every list ts of in-range times that is not refused in rooms of a, b and c elements. `listed` is what the contract of `request_list` says (specs/Lists
-- of requests), `outcome` the same with the rows (specs/Demand3 of sequences), and `best_order` what that of `best_order` says (specs/Order of outward_order).
use Rattle.std.specs.Prelude.{ℕ, ◌+◌, ◌≤◌, max, ◌≡◌, true, cond, List, [], ◌∷◌, ◌++◌, length, ℤ, nat_abs}
use Rattle.resonance.specs.declared.place.Side.{Side}
use Rattle.resonance.specs.declared.place.Side.TheVariants.{Forward, Back}
use Rattle.resonance.specs.Place.{same_side}
use Rattle.resonance.specs.Time.{side_of, in_range, whole_strides}
use Rattle.sgp4.specs.Sgp4.{integrator_of}
use Rattle.opening.specs.declared.opening.Satellite.{Satellite}
use Rattle.requests.specs.Lists.{listed}
use Rattle.sequences.specs.Demand3.{Many, outcome, Outward}
use Rattle.outward_order.specs.Order.{best_order}
use Rattle.orders.specs.Places.{Places, Rearranged}

abbrev pub AllInRange : List ℤ → Type 0
AllInRange [] = Unit {0}
AllInRange (t ∷ ts) = (in_range t ≡ true) × AllInRange ts

-- ── the number ──

-- how far a time lies on the side d
abbrev pub distance_on : Side → ℤ → ℕ
distance_on d t = cond (same_side (side_of t) d) (nat_abs t) 0

-- the farthest time on the side d, by its distance; 0 where there is none
abbrev pub farthest_on : Side → List ℤ → ℕ
farthest_on d [] = 0
farthest_on d (t ∷ ts) = max (distance_on d t) (farthest_on d ts)

-- "the strides to the farthest time on each side, added"; 0 without resonance, since `whole_strides` is
abbrev pub both_sides : Satellite → List ℤ → ℕ
both_sides s ts = let i = integrator_of s.model in whole_strides i (farthest_on Forward ts) + whole_strides i (farthest_on Back ts)

-- ── the order ──

abbrev pub other_side : Side → Side
other_side Forward = Back
other_side Back = Forward

abbrev pub AtEpoch : List ℤ → Type 0
AtEpoch [] = Unit {0}
AtEpoch (t ∷ ts) = (nat_abs t ≡ 0) × AtEpoch ts

-- "the zeros first, one side outward, then the other side outward": d is the side that comes first.
-- `Outward d 1 ts` is demand 3's: every time of ts is on the side d, at least 1 microsecond from the epoch, and none is nearer than an earlier one
pub record OutwardFrom (d : Side) (us : List ℤ) : Type 0 where
  pub zeros : List ℤ
  pub first : List ℤ
  pub second : List ℤ
  pub whole : us ≡ zeros ++ (first ++ second)
  pub at_epoch_lem : AtEpoch zeros
  pub one_side : Outward d 1 first
  pub other_side_lem : Outward (other_side d) 1 second

-- ── the claim ──

-- of a list ts put to s in rooms of a, b and c elements, and of every list us that is ts rearranged:
--   taken     us is not refused either
--   rows      its rows are those of ts rearranged alike: each row goes where its time goes
--   least     it takes no fewer strides than those to the farthest time on each side, added
--   outward   it takes exactly that many where it is outward, whichever side comes first
--   attained  for either first side there is such a us
-- and of the list that `best_order` leaves of ts:
--   ordered   it is ts rearranged, and outward, the side after the epoch first
--   best      so it takes exactly that many
pub record BestOrder (s : Satellite) (ts : List ℤ) (a b c : ℕ) : Type 0 where
  pub taken : (p : Places (length ts)) (us : List ℤ) → Rearranged (length ts) p ts us → (listed s us a b c).refusal ≡ 0
  pub rows : (p : Places (length ts)) (us : List ℤ) → Rearranged (length ts) p ts us
      → Rearranged (length ts) p (outcome s (Many ts a b c)).rows (outcome s (Many us a b c)).rows
  pub least : (p : Places (length ts)) (us : List ℤ) → Rearranged (length ts) p ts us → both_sides s ts ≤ (listed s us a b c).strides.0
  pub outward : (p : Places (length ts)) (us : List ℤ) → Rearranged (length ts) p ts us → (d : Side) → OutwardFrom d us → (listed s us a b c).strides.0 ≡ both_sides s ts
  pub attained : (d : Side) → (us : List ℤ) × (p : Places (length ts)) × Rearranged (length ts) p ts us × OutwardFrom d us
  pub ordered : (p : Places (length ts)) × Rearranged (length ts) p ts (best_order ts) × OutwardFrom Forward (best_order ts)
  pub best : (listed s (best_order ts) a b c).strides.0 ≡ both_sides s ts
