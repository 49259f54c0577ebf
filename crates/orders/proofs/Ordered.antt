-- The order that `best_order` leaves: a rearrangement, and outward.
use mathlib.Core.Path.{◌≡◌, refl, ap, ◌∙◌}
use mathlib.Core.Bool.{Bool, true, false, cond}
use mathlib.Core.Logic.{⊎_elim}
use mathlib.Core.List.{List, [], ◌∷◌, ◌++◌}
use Prim.Native.Nat.{ℕ, zero, suc, ◌≤◌}
use native.Mathlib.Omega.{arith}
use lib.ListN.{length}
use lib.Dec.{leb, leb-zero, leb-suc-suc}
use lib.IntN.{ℤ, pos, negsuc, nat_abs}
use borrow.Author.Tests.{lt-leb}
use Rattle.resonance.specs.declared.place.Side.{Side}
use Rattle.resonance.specs.declared.place.Side.TheVariants.{Forward, Back}
use Rattle.resonance.specs.Time.{side_of}
use Rattle.sequences.specs.Demand3.{Outward}
use Rattle.outward_order.specs.Order.{no_later, placed, best_order}
use Rattle.orders.specs.Places.{Places, Rearranged}
use Rattle.orders.specs.Best.{AtEpoch, OutwardFrom}
use Rattle.orders.proofs.Sorting.{Shuffle, none, keep, both, Put, here, there, put, places_of, insert, insert_outward}

-- ── rearranged ──

placed_put : (t : ℤ) (us : List ℤ) → Put t us (placed t us)
unfolding placed
placed_put t [] = here []
placed_put t (u ∷ us) = go (no_later t u) (placed_put t us)
  where
    go : (b : Bool) → Put t us (placed t us) → Put t (u ∷ us) (cond b (t ∷ u ∷ us) (u ∷ placed t us))
    go true q = here (u ∷ us)
    go false q = there u q

shuffled : (ts : List ℤ) → Shuffle ts (best_order ts)
unfolding best_order
shuffled [] = none
shuffled (t ∷ ts) = both (keep t (shuffled ts)) (put (placed_put t (best_order ts)))

-- ── where each kind of time comes to stand ──

-- a zero first of all
placed_zero : (us : List ℤ) → placed (pos 0) us ≡ pos 0 ∷ us
unfolding placed
placed_zero [] = refl
placed_zero (pos n ∷ us) = rw (leb-zero n)
placed_zero (negsuc n ∷ us) = refl

-- any other behind the zeros
behind_zeros : (t : ℤ) (zs us : List ℤ) → 1 ≤ nat_abs t → AtEpoch zs → placed t (zs ++ us) ≡ zs ++ placed t us
unfolding placed
behind_zeros t [] us h z = refl
behind_zeros (pos m) (pos n ∷ zs) us h z = rw (lt-leb m n (omega (arith, z.0)), behind_zeros (pos m) zs us h z.1)
behind_zeros (pos m) (negsuc n ∷ zs) us h z = absurd (omega (arith, z.0))
behind_zeros (negsuc m) (pos n ∷ zs) us h z = rw (behind_zeros (negsuc m) zs us h z.1)
behind_zeros (negsuc m) (negsuc n ∷ zs) us h z = absurd (omega (arith, z.0))

wrong_side : (d : Side) (lo : ℕ) (t : ℤ) (ts : List ℤ) → 1 ≤ lo → Outward d lo (t ∷ ts) → (side_of t ≡ d → ⊥) → ⊥
wrong_side d lo t ts h w k = ⊎_elim (λ e. omega (arith, w.1)) k w.0

forward_not_back : Forward ≡ Back → ⊥
forward_not_back e = let z : ◌≡◌ {A = ℕ} 0 1 = cc in omega arith

back_not_forward : Back ≡ Forward → ⊥
back_not_forward e = let z : ◌≡◌ {A = ℕ} 0 1 = cc in omega arith

-- one after the epoch among those after it
before_second : (m lo : ℕ) (ys : List ℤ) → 1 ≤ lo → Outward Back lo ys → placed (pos m) ys ≡ pos m ∷ ys
unfolding placed
before_second m lo [] h w = refl
before_second m lo (pos n ∷ ys) h w = absurd (wrong_side Back lo (pos n) ys h w forward_not_back)
before_second m lo (negsuc n ∷ ys) h w = refl

among_first : (m lo : ℕ) (xs ys : List ℤ) → 1 ≤ lo → Outward Forward lo xs → Outward Back 1 ys → placed (pos m) (xs ++ ys) ≡ insert (pos m) xs ++ ys
unfolding placed insert
among_first m lo [] ys h o w = before_second m 1 ys (omega arith) w
among_first m lo (pos n ∷ xs) ys h o w = go (leb m n) (among_first m n xs ys (omega (arith, o.1)) o.2 w)
  where
    go : (b : Bool) → placed (pos m) (xs ++ ys) ≡ insert (pos m) xs ++ ys
        → cond b (pos m ∷ pos n ∷ (xs ++ ys)) (pos n ∷ placed (pos m) (xs ++ ys)) ≡ cond b (pos m ∷ pos n ∷ xs) (pos n ∷ insert (pos m) xs) ++ ys
    go true ih = refl
    go false ih = ap (λ (vs : List ℤ). pos n ∷ vs) ih
among_first m lo (negsuc n ∷ xs) ys h o w = absurd (wrong_side Forward lo (negsuc n) xs h o back_not_forward)

-- one before the epoch behind those after it, among those before it
behind_first : (m lo : ℕ) (xs ys : List ℤ) → 1 ≤ lo → Outward Forward lo xs → placed (negsuc m) (xs ++ ys) ≡ xs ++ placed (negsuc m) ys
unfolding placed
behind_first m lo [] ys h o = refl
behind_first m lo (pos n ∷ xs) ys h o = ap (λ (vs : List ℤ). pos n ∷ vs) (behind_first m n xs ys (omega (arith, o.1)) o.2)
behind_first m lo (negsuc n ∷ xs) ys h o = absurd (wrong_side Forward lo (negsuc n) xs h o back_not_forward)

among_second : (m lo : ℕ) (ys : List ℤ) → 1 ≤ lo → Outward Back lo ys → placed (negsuc m) ys ≡ insert (negsuc m) ys
unfolding placed insert
among_second m lo [] h w = refl
among_second m lo (pos n ∷ ys) h w = absurd (wrong_side Back lo (pos n) ys h w forward_not_back)
among_second m lo (negsuc n ∷ ys) h w = rw (leb-suc-suc m n, among_second m (suc n) ys (omega arith) w.2)

-- ── outward ──

module _ (us : List ℤ) (o : OutwardFrom Forward us) where
  zero_more : OutwardFrom Forward (placed (pos 0) us)
  zero_more =
      record {
        zeros = pos 0 ∷ o.zeros;
        first = o.first;
        second = o.second;
        whole = placed_zero us ∙ ap (λ (vs : List ℤ). pos 0 ∷ vs) o.whole;
        at_epoch_lem = (refl, o.at_epoch_lem);
        one_side = o.one_side;
        other_side_lem = o.other_side_lem;
      }

  first_more : (n : ℕ) → OutwardFrom Forward (placed (pos (suc n)) us)
  first_more n =
      record {
        zeros = o.zeros;
        first = insert (pos (suc n)) o.first;
        second = o.second;
        whole =
            ap (placed (pos (suc n))) o.whole ∙ behind_zeros (pos (suc n)) o.zeros (o.first ++ o.second) (omega arith) o.at_epoch_lem
            ∙ ap (λ (vs : List ℤ). o.zeros ++ vs) (among_first (suc n) 1 o.first o.second (omega arith) o.one_side o.other_side_lem);
        at_epoch_lem = o.at_epoch_lem;
        one_side = insert_outward Forward 1 (pos (suc n)) o.first refl (omega arith) o.one_side;
        other_side_lem = o.other_side_lem;
      }

  second_more : (n : ℕ) → OutwardFrom Forward (placed (negsuc n) us)
  second_more n =
      record {
        zeros = o.zeros;
        first = o.first;
        second = insert (negsuc n) o.second;
        whole =
            ap (placed (negsuc n)) o.whole ∙ behind_zeros (negsuc n) o.zeros (o.first ++ o.second) (omega arith) o.at_epoch_lem
            ∙ ap (λ (vs : List ℤ). o.zeros ++ vs)
            (behind_first n 1 o.first o.second (omega arith) o.one_side ∙ ap (λ (vs : List ℤ). o.first ++ vs) (among_second n 1 o.second (omega arith) o.other_side_lem));
        at_epoch_lem = o.at_epoch_lem;
        one_side = o.one_side;
        other_side_lem = insert_outward Back 1 (negsuc n) o.second refl (omega arith) o.other_side_lem;
      }

best_outward : (ts : List ℤ) → OutwardFrom Forward (best_order ts)
unfolding best_order
best_outward [] = record { zeros = []; first = []; second = []; whole = refl; at_epoch_lem = tt; one_side = tt; other_side_lem = tt }
best_outward (pos zero ∷ ts) = zero_more (best_order ts) (best_outward ts)
best_outward (pos (suc n) ∷ ts) = first_more (best_order ts) (best_outward ts) n
best_outward (negsuc n ∷ ts) = second_more (best_order ts) (best_outward ts) n

pub best_ordered : (ts : List ℤ) → (p : Places (length ts)) × Rearranged (length ts) p ts (best_order ts) × OutwardFrom Forward (best_order ts)
best_ordered ts = let q = places_of (shuffled ts) in (q.0, q.1, best_outward ts)
