-- The count of strides, held against the farthest time on each side.
use mathlib.Core.Path.{◌≡◌, refl, sym, ap, ◌∙◌, subst}
use mathlib.Core.Logic.{◌⊎◌, ⊎_elim}
use mathlib.Core.Bool.{Bool, true, false, cond, ◌&&◌, ◌||◌}
use mathlib.Core.List.{List, [], ◌∷◌, ◌++◌}
use Prim.Native.Nat.{ℕ, ◌+◌, ◌-◌, ◌/◌, ◌≤◌, ◌<◌, max}
use native.Mathlib.Omega.{arith}
use lib.Dec.{leb, eqb}
use lib.IntN.{ℤ, pos, negsuc, nat_abs}
use borrow.Author.Tests.{le-leb, eqb-true, leb-true, leb-false}
use Rattle.satellite.specs.declared.Integrator.{Integrator}
use Rattle.resonance.specs.declared.place.Side.{Side}
use Rattle.resonance.specs.declared.place.Side.TheVariants.{Forward, Back}
use Rattle.resonance.specs.Place.{same_side}
use Rattle.resonance.specs.Time.{side_of, resonant, stride_need, whole_strides}
use Rattle.sequences.specs.Demand3.{Last, none, after, count_in, last_of, counts_of, lasts_of, Outward, farthest}
use Rattle.orders.specs.Best.{AllInRange, farthest_on, other_side, AtEpoch, OutwardFrom}

-- ── whole strides ──

mono_by : (b : Bool) (x y : ℕ) → x ≤ y → cond b (x / 43200000000) 0 ≤ cond b (y / 43200000000) 0
mono_by true x y h = omega arith
mono_by false x y h = omega arith

mono : (i : Integrator) (x y : ℕ) → x ≤ y → whole_strides i x ≤ whole_strides i y
unfolding whole_strides
mono i x y h = mono_by (resonant i.resonance) x y h

none_by : (b : Bool) → cond b (0 / 43200000000) 0 ≡ 0
none_by true = refl
none_by false = refl

none_at : (i : Integrator) → whole_strides i 0 ≡ 0
unfolding whole_strides
none_at i = none_by (resonant i.resonance)

-- ── one time ──

-- what the last time in range saves a time on the side d
abbrev held_on : Integrator → Side → Last → ℕ
held_on i d none = 0
held_on i d (after u) = cond (same_side (side_of u) d) (stride_need i u) 0

-- the test of a count, with its three parts
abbrev counting : Bool → Bool → Bool → ℕ → ℕ → ℕ
counting less zero same n m = cond (less && (zero || same)) (m - n) m

short_by : (less zero same : Bool) (n m : ℕ) → (zero ≡ true → n ≡ 0) → m ≤ cond same n 0 + counting less zero same n m
short_by true true true n m h = omega (arith, h refl)
short_by true true false n m h = omega (arith, h refl)
short_by true false true n m h = omega arith
short_by true false false n m h = omega arith
short_by false zero same n m h = omega arith

-- no time counts less than what is left of its need
short : (i : Integrator) (l : Last) (t : ℤ) → stride_need i t ≤ held_on i (side_of t) l + count_in i l t
short i none t = omega arith
short i (after u) t =
    short_by (leb (stride_need i u) (stride_need i t)) (eqb (stride_need i u) 0) (same_side (side_of u) (side_of t)) (stride_need i u) (stride_need i t) (eqb-true (stride_need i u) 0)

fresh_by : (less zero same : Bool) (n m : ℕ) → (zero ≡ true → n ≡ 0) → cond same n 0 ≡ 0 → counting less zero same n m ≡ m
fresh_by true true same n m h e = omega (arith, h refl)
fresh_by true false true n m h e = omega arith
fresh_by true false false n m h e = refl
fresh_by false zero same n m h e = refl

-- where nothing is saved, a time counts its need
fresh : (i : Integrator) (l : Last) (t : ℤ) → held_on i (side_of t) l ≡ 0 → count_in i l t ≡ stride_need i t
fresh i none t h = refl
fresh i (after u) t h =
    fresh_by (leb (stride_need i u) (stride_need i t)) (eqb (stride_need i u) 0) (same_side (side_of u) (side_of t)) (stride_need i u) (stride_need i t) (eqb-true (stride_need i u) 0) h

rises_by : (zero : Bool) (n m : ℕ) → n ≤ m → n + counting true zero true n m ≡ m
rises_by true n m h = omega arith
rises_by false n m h = omega arith

same_refl : (d : Side) → same_side d d ≡ true
same_refl Forward = refl
same_refl Back = refl

-- a time on the side of the last, and no nearer, counts the rise
rises : (i : Integrator) (u t : ℤ) → side_of u ≡ side_of t → stride_need i u ≤ stride_need i t → stride_need i u + count_in i (after u) t ≡ stride_need i t
rises i u t e h =
    rw (le-leb (stride_need i u) (stride_need i t) h, e, same_refl (side_of t)) (rises_by (eqb (stride_need i u) 0) (stride_need i u) (stride_need i t) h)

-- ── no order takes fewer ──

max_comm3 : (x y z : ℕ) → max x (max y z) ≡ max (max x y) z
max_comm3 x y z = omega arith

max_zero : (x : ℕ) → max x 0 ≡ x
max_zero x = omega arith

zero_max : (x : ℕ) → max 0 x ≡ x
zero_max x = omega arith

-- the farther of the two is paid for
grow_by : (i : Integrator) (x n h c : ℕ) → whole_strides i n ≤ h + c → h ≤ whole_strides i x → (b : Bool) → leb x n ≡ b → whole_strides i (max x n) ≤ whole_strides i x + c
grow_by i x n h c p q true e =
    let l : x ≤ n = leb-true x n e in
    let m : max x n ≡ n = omega arith in
    rw m (omega arith)
grow_by i x n h c p q false e =
    let l : n < x = leb-false x n e in
    let m : max x n ≡ x = omega arith in
    rw m (omega arith)

grow : (i : Integrator) (x n h c : ℕ) → whole_strides i n ≤ h + c → h ≤ whole_strides i x → whole_strides i (max x n) ≤ whole_strides i x + c
grow i x n h c p q = grow_by i x n h c p q (leb x n) refl

-- after times that reached x forward and y back, and a last one within those
bound : (i : Integrator) (ts : List ℤ) (l : Last) (x y : ℕ) → AllInRange ts → held_on i Forward l ≤ whole_strides i x → held_on i Back l ≤ whole_strides i y
    → whole_strides i (max x (farthest_on Forward ts)) + whole_strides i (max y (farthest_on Back ts)) ≤ whole_strides i x + whole_strides i y + counts_of i l ts
bound i [] l x y r hx hy = rw (max_zero x, max_zero y) (omega arith)
bound i (pos n ∷ ts) l x y r hx hy =
    rw (r.0, max_comm3 x n (farthest_on Forward ts), zero_max (farthest_on Back ts))
    (omega (
      arith,
      grow i x n (held_on i Forward l) (count_in i l (pos n)) (short i l (pos n)) hx,
      bound i ts (after (pos n)) (max x n) y r.1 (mono i n (max x n) (omega arith)) (omega arith),
    ))
bound i (negsuc n ∷ ts) l x y r hx hy =
    rw (r.0, max_comm3 y (nat_abs (negsuc n)) (farthest_on Back ts), zero_max (farthest_on Forward ts))
    (omega (
      arith,
      grow i y (nat_abs (negsuc n)) (held_on i Back l) (count_in i l (negsuc n)) (short i l (negsuc n)) hy,
      bound i ts (after (negsuc n)) x (max y (nat_abs (negsuc n))) r.1 (omega arith) (mono i (nat_abs (negsuc n)) (max y (nat_abs (negsuc n))) (omega arith)),
    ))

pub at_least : (i : Integrator) (ts : List ℤ) → AllInRange ts → whole_strides i (farthest_on Forward ts) + whole_strides i (farthest_on Back ts) ≤ counts_of i none ts
at_least i ts r =
    let b = bound i ts none 0 0 r (omega arith) (omega arith) in
    let f : whole_strides i (max 0 (farthest_on Forward ts)) ≡ whole_strides i (farthest_on Forward ts) = ap (whole_strides i) (zero_max (farthest_on Forward ts)) in
    let g : whole_strides i (max 0 (farthest_on Back ts)) ≡ whole_strides i (farthest_on Back ts) = ap (whole_strides i) (zero_max (farthest_on Back ts)) in
    omega (arith, none_at i)

-- ── the parts of an outward order ──

-- times at the epoch

zeros_count : (i : Integrator) (l : Last) (zs : List ℤ) → AtEpoch zs → AllInRange zs → held_on i Forward l ≡ 0 → held_on i Back l ≡ 0 → counts_of i l zs ≡ 0
zeros_count i l [] z r f b = refl
zeros_count i l (pos n ∷ zs) z r f b =
    let e : stride_need i (pos n) ≡ 0 = ap (whole_strides i) z.0 ∙ none_at i in
    rw r.0 (omega (arith, fresh i l (pos n) f, zeros_count i (after (pos n)) zs z.1 r.1 e refl))
zeros_count i l (negsuc n ∷ zs) z r f b = absurd (omega arith)

zeros_held : (i : Integrator) (d : Side) (l : Last) (zs : List ℤ) → AtEpoch zs → AllInRange zs → held_on i d l ≡ 0 → held_on i d (lasts_of l zs) ≡ 0
zeros_held i d l [] z r h = h
zeros_held i d l (t ∷ zs) z r h = rw r.0 (zeros_held i d (after t) zs z.1 r.1 (held (same_side (side_of t) d) (ap (whole_strides i) z.0 ∙ none_at i)))
  where
    held : (b : Bool) → stride_need i t ≡ 0 → cond b (stride_need i t) 0 ≡ 0
    held true e = e
    held false e = refl

-- times of one side, outward

on_side : (d : Side) (lo : ℕ) (t : ℤ) → 1 ≤ lo → lo ≤ nat_abs t → (nat_abs t ≡ 0) ⊎ (side_of t ≡ d) → side_of t ≡ d
on_side d lo t h k w = ⊎_elim (λ z. absurd (omega arith)) (λ e. e) w

rising : (i : Integrator) (d : Side) (u : ℤ) (ts : List ℤ) → side_of u ≡ d → 1 ≤ nat_abs u → AllInRange ts → Outward d (nat_abs u) ts
    → stride_need i u + counts_of i (after u) ts ≡ whole_strides i (max (nat_abs u) (farthest ts))
rising i d u [] e h r w = rw (max_zero (nat_abs u)) (omega arith)
rising i d u (t ∷ ts) e h r w =
    let s = on_side d (nat_abs u) t h w.1 w.0 in
    let m : max (nat_abs u) (max (nat_abs t) (farthest ts)) ≡ max (nat_abs t) (farthest ts) = omega (arith, w.1) in
    let k : 1 ≤ nat_abs t = omega (arith, w.1) in
    rw (r.0, m) (omega (arith, rises i u t (e ∙ sym s) (mono i (nat_abs u) (nat_abs t) w.1), rising i d t ts s k r.1 w.2))

-- from where nothing is saved on their side
side_count : (i : Integrator) (d : Side) (l : Last) (ts : List ℤ) → held_on i d l ≡ 0 → AllInRange ts → Outward d 1 ts → counts_of i l ts ≡ whole_strides i (farthest ts)
side_count i d l [] h r w = sym (none_at i)
side_count i d l (t ∷ ts) h r w =
    let s = on_side d 1 t (omega arith) w.1 w.0 in
    rw r.0 (omega (arith, fresh i l t (subst (λ (e : Side). held_on i e l ≡ 0) (sym s) h), rising i d t ts s w.1 r.1 w.2))

apart : (d : Side) → same_side d (other_side d) ≡ false
apart Forward = refl
apart Back = refl

-- they save nothing for the other side
side_held : (i : Integrator) (d : Side) (lo : ℕ) (l : Last) (ts : List ℤ) → 1 ≤ lo → held_on i (other_side d) l ≡ 0 → AllInRange ts → Outward d lo ts
    → held_on i (other_side d) (lasts_of l ts) ≡ 0
side_held i d lo l [] h e r w = e
side_held i d lo l (t ∷ ts) h e r w =
    let s = on_side d lo t h w.1 w.0 in
    let k : held_on i (other_side d) (after t) ≡ 0 = rw (s, apart d) in
    rw r.0 (side_held i d (nat_abs t) (after t) ts (omega (arith, w.1)) k r.1 w.2)

-- ── the whole ──

counts_append : (i : Integrator) (l : Last) (ts us : List ℤ) → counts_of i l (ts ++ us) ≡ counts_of i l ts + counts_of i (lasts_of l ts) us
counts_append i l [] us = omega arith
counts_append i l (t ∷ ts) us = omega (arith, counts_append i (last_of l t) ts us)

range_left : (ts us : List ℤ) → AllInRange (ts ++ us) → AllInRange ts
range_left [] us r = tt
range_left (t ∷ ts) us r = (r.0, range_left ts us r.1)

range_right : (ts us : List ℤ) → AllInRange (ts ++ us) → AllInRange us
range_right [] us r = r
range_right (t ∷ ts) us r = range_right ts us r.1

farthest_append : (d : Side) (ts us : List ℤ) → farthest_on d (ts ++ us) ≡ max (farthest_on d ts) (farthest_on d us)
farthest_append d [] us = omega arith
farthest_append d (t ∷ ts) us = omega (arith, farthest_append d ts us)

farthest_zeros : (d : Side) (zs : List ℤ) → AtEpoch zs → farthest_on d zs ≡ 0
farthest_zeros d [] z = refl
farthest_zeros d (t ∷ zs) z = nothing (same_side (side_of t) d) (farthest_zeros d zs z.1)
  where
    nothing : (b : Bool) → farthest_on d zs ≡ 0 → max (cond b (nat_abs t) 0) (farthest_on d zs) ≡ 0
    nothing true h = omega (arith, z.0)
    nothing false h = omega arith

farthest_own : (d : Side) (lo : ℕ) (ts : List ℤ) → 1 ≤ lo → Outward d lo ts → farthest_on d ts ≡ farthest ts
farthest_own d lo [] h w = refl
farthest_own d lo (t ∷ ts) h w =
    rw (on_side d lo t h w.1 w.0, same_refl d, farthest_own d (nat_abs t) ts (omega (arith, w.1)) w.2)

farthest_other : (d : Side) (lo : ℕ) (ts : List ℤ) → 1 ≤ lo → Outward d lo ts → farthest_on (other_side d) ts ≡ 0
farthest_other d lo [] h w = refl
farthest_other d lo (t ∷ ts) h w =
    rw (on_side d lo t h w.1 w.0, apart d, farthest_other d (nat_abs t) ts (omega (arith, w.1)) w.2)

other_other : (d : Side) → other_side (other_side d) ≡ d
other_other Forward = refl
other_other Back = refl

module _ (d : Side) (zs xs ys : List ℤ) (z : AtEpoch zs) (o : Outward d 1 xs) (w : Outward (other_side d) 1 ys) where
  farthest_first : farthest_on d (zs ++ (xs ++ ys)) ≡ farthest xs
  farthest_first =
      let e : farthest_on d ys ≡ 0 = subst (λ (e : Side). farthest_on e ys ≡ 0) (other_other d) (farthest_other (other_side d) 1 ys (omega arith) w) in
      omega (arith, farthest_append d zs (xs ++ ys), farthest_append d xs ys, farthest_zeros d zs z, farthest_own d 1 xs (omega arith) o)

  farthest_second : farthest_on (other_side d) (zs ++ (xs ++ ys)) ≡ farthest ys
  farthest_second =
      omega (
        arith,
        farthest_append (other_side d) zs (xs ++ ys),
        farthest_append (other_side d) xs ys,
        farthest_zeros (other_side d) zs z,
        farthest_other d 1 xs (omega arith) o,
        farthest_own (other_side d) 1 ys (omega arith) w,
      )

  total : (i : Integrator) → AllInRange (zs ++ (xs ++ ys))
      → counts_of i none (zs ++ (xs ++ ys)) ≡ whole_strides i (farthest_on d (zs ++ (xs ++ ys))) + whole_strides i (farthest_on (other_side d) (zs ++ (xs ++ ys)))
  total i r =
      let rz = range_left zs (xs ++ ys) r in
      let rx = range_left xs ys (range_right zs (xs ++ ys) r) in
      let ry = range_right xs ys (range_right zs (xs ++ ys) r) in
      let l = lasts_of none zs in
      rw (farthest_first, farthest_second)
      (omega (
        arith,
        counts_append i none zs (xs ++ ys),
        counts_append i l xs ys,
        zeros_count i none zs z rz refl refl,
        side_count i d l xs (zeros_held i d none zs z rz refl) rx o,
        side_count i (other_side d) (lasts_of l xs) ys (side_held i d 1 l xs (omega arith) (zeros_held i (other_side d) none zs z rz refl) rx o) ry w,
      ))

exactly_by : (i : Integrator) (d : Side) (us : List ℤ) → counts_of i none us ≡ whole_strides i (farthest_on d us) + whole_strides i (farthest_on (other_side d) us)
    → counts_of i none us ≡ whole_strides i (farthest_on Forward us) + whole_strides i (farthest_on Back us)
exactly_by i Forward us h = h
exactly_by i Back us h = omega arith

pub exactly : (i : Integrator) (d : Side) (us : List ℤ) → OutwardFrom d us → AllInRange us
    → counts_of i none us ≡ whole_strides i (farthest_on Forward us) + whole_strides i (farthest_on Back us)
exactly i d us o r =
    exactly_by i d us
    (subst (λ (vs : List ℤ). AllInRange vs → counts_of i none vs ≡ whole_strides i (farthest_on d vs) + whole_strides i (farthest_on (other_side d) vs)) (sym o.whole)
    (total d o.zeros o.first o.second o.at_epoch_lem o.one_side o.other_side_lem i)
    r)
