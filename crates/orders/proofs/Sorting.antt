-- An outward order of any list of times.
use mathlib.Core.Path.{◌≡◌, refl, ap, ◌∙◌, subst}
use mathlib.Core.Logic.{◌⊎◌, inl, inr}
use mathlib.Core.Bool.{Bool, true, false, cond}
use mathlib.Core.List.{List, [], ◌∷◌, ◌++◌}
use Prim.Native.Nat.{ℕ, zero, suc, ◌≤◌, ◌<◌}
use native.Mathlib.Omega.{arith}
use lib.ListN.{length, get_or}
use lib.Dec.{leb}
use lib.IntN.{ℤ, nat_abs}
use borrow.Author.Tests.{leb-true, leb-false}
use Rattle.resonance.specs.declared.place.Side.{Side}
use Rattle.resonance.specs.declared.place.Side.TheVariants.{Forward, Back}
use Rattle.resonance.specs.Time.{side_of}
use Rattle.sequences.specs.Demand3.{Outward}
use Rattle.orders.specs.Places.{Places, Rearranged}
use Rattle.orders.specs.Best.{other_side, OutwardFrom}

-- ── rearrangements step by step ──

pub data Shuffle : List ℤ → List ℤ → Type 0 where
  none : Shuffle [] []
  keep : (t : ℤ) {ts us : List ℤ} → Shuffle ts us → Shuffle (t ∷ ts) (t ∷ us)
  swap : (t u : ℤ) (ts : List ℤ) → Shuffle (t ∷ u ∷ ts) (u ∷ t ∷ ts)
  both : {ts us vs : List ℤ} → Shuffle ts us → Shuffle us vs → Shuffle ts vs

stay : (ts : List ℤ) → Shuffle ts ts
stay [] = none
stay (t ∷ ts) = keep t (stay ts)

-- a time put into a list, anywhere
pub data Put (t : ℤ) : List ℤ → List ℤ → Type 0 where
  here : (us : List ℤ) → Put t us (t ∷ us)
  there : (u : ℤ) {us vs : List ℤ} → Put t us vs → Put t (u ∷ us) (u ∷ vs)

pub put : {t : ℤ} {us vs : List ℤ} → Put t us vs → Shuffle (t ∷ us) vs
put {t} (here us) = stay (t ∷ us)
put {t} (there u {us = us} q) = both (swap t u us) (keep u (put q))

put_after : {t : ℤ} {us vs : List ℤ} (zs : List ℤ) → Put t us vs → Put t (zs ++ us) (zs ++ vs)
put_after [] q = q
put_after (z ∷ zs) q = there z (put_after zs q)

put_before : {t : ℤ} {us vs : List ℤ} (ys : List ℤ) → Put t us vs → Put t (us ++ ys) (vs ++ ys)
put_before ys (here us) = here (us ++ ys)
put_before ys (there u q) = there u (put_before ys q)

-- ── the places of a rearrangement ──

same_places : (n : ℕ) → Places n
same_places n = record { from = λ j. j; goes = λ j. j; from_below = λ j h. h; goes_below = λ j h. h; goes_from = λ j h. refl; from_goes = λ j h. refl }

-- behind a first place that stays
abbrev behind : (ℕ → ℕ) → ℕ → ℕ
behind f zero = zero
behind f (suc j) = suc (f j)

behind_below : (f : ℕ → ℕ) (n : ℕ) → ((j : ℕ) → j < n → f j < n) → (j : ℕ) → j < suc n → behind f j < suc n
behind_below f n h zero l = omega arith
behind_below f n h (suc j) l = omega (arith, h j (omega arith))

behind_undone : (f g : ℕ → ℕ) (n : ℕ) → ((j : ℕ) → j < n → g (f j) ≡ j) → (j : ℕ) → j < suc n → behind g (behind f j) ≡ j
behind_undone f g n h zero l = refl
behind_undone f g n h (suc j) l = ap suc (h j (omega arith))

unfoldable behind_places : (n : ℕ) → Places n → Places (suc n)
behind_places n p =
    record {
      from = behind p.from;
      goes = behind p.goes;
      from_below = behind_below p.from n p.from_below;
      goes_below = behind_below p.goes n p.goes_below;
      goes_from = behind_undone p.from p.goes n p.goes_from;
      from_goes = behind_undone p.goes p.from n p.from_goes;
    }

-- the first two change places
abbrev cross : ℕ → ℕ
cross zero = 1
cross (suc zero) = 0
cross (suc (suc j)) = suc (suc j)

cross_below : (n j : ℕ) → j < suc (suc n) → cross j < suc (suc n)
cross_below n zero h = omega arith
cross_below n (suc zero) h = omega arith
cross_below n (suc (suc j)) h = h

cross_undone : (j : ℕ) → cross (cross j) ≡ j
cross_undone zero = refl
cross_undone (suc zero) = refl
cross_undone (suc (suc j)) = refl

unfoldable cross_places : (n : ℕ) → Places (suc (suc n))
cross_places n =
    record {
      from = cross;
      goes = cross;
      from_below = cross_below n;
      goes_below = cross_below n;
      goes_from = λ j h. cross_undone j;
      from_goes = λ j h. cross_undone j;
    }

-- one after the other
unfoldable both_places : (n : ℕ) → Places n → Places n → Places n
both_places n p q =
    record {
      from = λ j. p.from (q.from j);
      goes = λ j. q.goes (p.goes j);
      from_below = λ j h. p.from_below (q.from j) (q.from_below j h);
      goes_below = λ j h. q.goes_below (p.goes j) (p.goes_below j h);
      goes_from = λ j h. ap q.goes (p.goes_from (q.from j) (q.from_below j h)) ∙ q.goes_from j h;
      from_goes = λ j h. ap p.from (q.from_goes (p.goes j) (p.goes_below j h)) ∙ p.from_goes j h;
    }

abbrev pub Placed : ℕ → List ℤ → List ℤ → Type 0
Placed n ts us = (p : Places n) × Rearranged n p ts us

places_keep : (t : ℤ) (n : ℕ) (ts us : List ℤ) → Placed n ts us → Placed (suc n) (t ∷ ts) (t ∷ us)
unfolding behind_places
places_keep t n ts us q = (behind_places n q.0, record { size = ap suc q.1.size; size' = ap suc q.1.size'; same = same })
  where
    same : (j : ℕ) → j < suc n → (d : ℤ) → get_or (t ∷ us) j d ≡ get_or (t ∷ ts) (behind q.0.from j) d
    same zero h d = refl
    same (suc j) h d = q.1.same j (omega arith) d

places_swap : (t u : ℤ) (ts : List ℤ) → Placed (suc (suc (length ts))) (t ∷ u ∷ ts) (u ∷ t ∷ ts)
unfolding cross_places
places_swap t u ts = (cross_places (length ts), record { size = refl; size' = refl; same = same })
  where
    same : (j : ℕ) → j < suc (suc (length ts)) → (d : ℤ) → get_or (u ∷ t ∷ ts) j d ≡ get_or (t ∷ u ∷ ts) (cross j) d
    same zero h d = refl
    same (suc zero) h d = refl
    same (suc (suc j)) h d = refl

places_both : (n : ℕ) (ts us vs : List ℤ) → Placed n ts us → Placed n us vs → Placed n ts vs
unfolding both_places
places_both n ts us vs p q = (
  both_places n p.0 q.0,
  record {
    size = p.1.size;
    size' = q.1.size';
    same = λ j h d. q.1.same j h d ∙ p.1.same (q.0.from j) (q.0.from_below j h) d;
  },
)

pub places_of : {ts us : List ℤ} → Shuffle ts us → Placed (length ts) ts us
unfolding same_places
places_of none = (same_places 0, record { size = refl; size' = refl; same = λ j h d. refl })
places_of (keep t {ts = ts} {us = us} s) = places_keep t (length ts) ts us (places_of s)
places_of (swap t u ts) = places_swap t u ts
places_of (both {ts = ts} {us = us} {vs = vs} s q) =
    let a = places_of s in
    let b : Placed (length ts) us vs = subst (λ (n : ℕ). Placed n us vs) a.1.size' (places_of q) in
    places_both (length ts) ts us vs a b

-- ── one time more in an outward list ──

unfoldable pub insert : ℤ → List ℤ → List ℤ
insert t [] = t ∷ []
insert t (u ∷ us) = cond (leb (nat_abs t) (nat_abs u)) (t ∷ u ∷ us) (u ∷ insert t us)

insert_put : (t : ℤ) (us : List ℤ) → Put t us (insert t us)
unfolding insert
insert_put t [] = here []
insert_put t (u ∷ us) = go (leb (nat_abs t) (nat_abs u)) (insert_put t us)
  where
    go : (b : Bool) → Put t us (insert t us) → Put t (u ∷ us) (cond b (t ∷ u ∷ us) (u ∷ insert t us))
    go true q = here (u ∷ us)
    go false q = there u q

pub insert_outward : (d : Side) (lo : ℕ) (t : ℤ) (us : List ℤ) → side_of t ≡ d → lo ≤ nat_abs t → Outward d lo us → Outward d lo (insert t us)
unfolding insert
insert_outward d lo t [] s h w = (inr s, h, tt)
insert_outward d lo t (u ∷ us) s h w = go (leb (nat_abs t) (nat_abs u)) refl (λ k. insert_outward d (nat_abs u) t us s k w.2)
  where
    go : (b : Bool) → leb (nat_abs t) (nat_abs u) ≡ b → (nat_abs u ≤ nat_abs t → Outward d (nat_abs u) (insert t us)) → Outward d lo (cond b (t ∷ u ∷ us) (u ∷ insert t us))
    go true e ih = (inr s, h, (w.0, leb-true (nat_abs t) (nat_abs u) e, w.2))
    go false e ih = let k : nat_abs u < nat_abs t = leb-false (nat_abs t) (nat_abs u) e in (w.0, w.1, ih (omega arith))

-- ── any list ──

abbrev Arranged : Side → List ℤ → Type 0
Arranged d ts = (us : List ℤ) × Shuffle ts us × OutwardFrom d us

add : (d : Side) (t : ℤ) (ts us : List ℤ) → Shuffle ts us → (vs : List ℤ) → Put t us vs → OutwardFrom d vs → Arranged d (t ∷ ts)
add d t ts us s vs q o = (vs, both (keep t s) (put q), o)

either : (d e : Side) → (e ≡ d) ⊎ (e ≡ other_side d)
either Forward Forward = inl refl
either Forward Back = inr refl
either Back Forward = inr refl
either Back Back = inl refl

module _ (d : Side) (t : ℤ) (ts us : List ℤ) (s : Shuffle ts us) (o : OutwardFrom d us) where
  -- the list as it stands, taken apart
  parted : Shuffle ts (o.zeros ++ (o.first ++ o.second))
  parted = subst (λ (vs : List ℤ). Shuffle ts vs) o.whole s

  add_zero : nat_abs t ≡ 0 → Arranged d (t ∷ ts)
  add_zero z =
      add d t ts _ parted (t ∷ (o.zeros ++ (o.first ++ o.second))) (here _)
      (record {
        zeros = t ∷ o.zeros;
        first = o.first;
        second = o.second;
        whole = refl;
        at_epoch_lem = (z, o.at_epoch_lem);
        one_side = o.one_side;
        other_side_lem = o.other_side_lem;
      })

  add_first : 1 ≤ nat_abs t → side_of t ≡ d → Arranged d (t ∷ ts)
  add_first h e =
      add d t ts _ parted (o.zeros ++ (insert t o.first ++ o.second)) (put_after o.zeros (put_before o.second (insert_put t o.first)))
      (record {
        zeros = o.zeros;
        first = insert t o.first;
        second = o.second;
        whole = refl;
        at_epoch_lem = o.at_epoch_lem;
        one_side = insert_outward d 1 t o.first e h o.one_side;
        other_side_lem = o.other_side_lem;
      })

  add_second : 1 ≤ nat_abs t → side_of t ≡ other_side d → Arranged d (t ∷ ts)
  add_second h e =
      add d t ts _ parted (o.zeros ++ (o.first ++ insert t o.second)) (put_after o.zeros (put_after o.first (insert_put t o.second)))
      (record {
        zeros = o.zeros;
        first = o.first;
        second = insert t o.second;
        whole = refl;
        at_epoch_lem = o.at_epoch_lem;
        one_side = o.one_side;
        other_side_lem = insert_outward (other_side d) 1 t o.second e h o.other_side_lem;
      })

  add_away : 1 ≤ nat_abs t → (side_of t ≡ d) ⊎ (side_of t ≡ other_side d) → Arranged d (t ∷ ts)
  add_away h (inl e) = add_first h e
  add_away h (inr e) = add_second h e

  add_time : (n : ℕ) → nat_abs t ≡ n → Arranged d (t ∷ ts)
  add_time zero e = add_zero e
  add_time (suc n) e = add_away (omega arith) (either d (side_of t))

arranged : (d : Side) (ts : List ℤ) → Arranged d ts
arranged d [] = ([], none, record { zeros = []; first = []; second = []; whole = refl; at_epoch_lem = tt; one_side = tt; other_side_lem = tt })
arranged d (t ∷ ts) = let a = arranged d ts in add_time d t ts a.0 a.1 a.2 (nat_abs t) refl

pub outward_order : (d : Side) (ts : List ℤ) → (us : List ℤ) × (p : Places (length ts)) × Rearranged (length ts) p ts us × OutwardFrom d us
outward_order d ts = let a = arranged d ts in let q = places_of a.1 in (a.0, q.0, q.1, a.2)
