-- Demand 3, for every sequence of requests put to a satellite newly opened from two accepted lines.
use mathlib.Core.Path.{◌≡◌, refl, sym, ap, ◌∙◌, subst}
use mathlib.Core.Logic.{◌⊎◌, ⊎_elim, inl, inr}
use mathlib.Core.Bool.{Bool, true, false, cond, ◌&&◌, ◌||◌}
use mathlib.Core.List.{List, [], ◌∷◌, ◌++◌, map}
use Prim.Native.Nat.{ℕ, ◌+◌, ◌-◌, ◌/◌, ◌≤◌, max}
use native.Mathlib.Omega.{arith}
use lib.Dec.{leb, eqb}
use lib.IntN.{ℤ, nat_abs}
use borrow.Author.Tests.{le-leb, eq-eqb}
use Rattle.satellite.specs.declared.Integrator.{Integrator}
use Rattle.satellite.specs.declared.Method.{Method}
use Rattle.satellite.specs.declared.Method.TheVariants as methods
use Rattle.satellite.specs.declared.Model.{Model}
use Rattle.resonance.specs.declared.place.Side.{Side}
use Rattle.resonance.specs.declared.place.Side.TheVariants.{Forward, Back}
use Rattle.resonance.specs.declared.place.Place.{Place}
use Rattle.resonance.specs.Place.{same_side, at_epoch, epoch_of, advance_of, rise}
use Rattle.resonance.specs.Time.{side_of, in_range, resonant, stride_need, whole_strides}
use Rattle.resonance.proofs.Iterates.{position, position_zero, serves, advanced_position, strides_position}
use Rattle.sgp4.specs.Sgp4.{no_integrator, integrator_by, integrator_of}
use Rattle.sgp4.specs.Kept.{row_from}
use Rattle.tle.specs.declared.Record.{Record}
use Rattle.std.specs.Prelude.{Ok}
use Rattle.tle.specs.Read.{read_of}
use Rattle.opening.specs.declared.opening.Satellite.{Satellite}
use Rattle.opening.specs.Opening.{epoch_place, newly, open_of}
use Rattle.opening.proofs.Made.{made}
use Rattle.requests.specs.Request.{reached, choose, inside, outside, asked, answered}
use Rattle.requests.specs.Lists.{rows_from, strides_from, satellite_from}
use Rattle.windows.specs.Windows.{times_of, instants_of, windows_of}
use Rattle.sequences.specs.Demand3.{Request, One, Many, Windows, outcome, row_times, run, times, sum, reported, Last, none, after, count_in, count_of, last_of, counts_of, lasts_of, counted, keep_if, ranged, Outward, farthest, row_alone, strides_alone, windows_alone, NoMore, epoch, Demand3}

-- ── the invariant: the saved position is that of the last time in range ──

abbrev pub side_at : Last → Side
side_at none = Forward
side_at (after u) = side_of u

abbrev pub need_at : Integrator → Last → ℕ
need_at i none = 0
need_at i (after u) = stride_need i u

abbrev pub place_at : Model → Last → Place
place_at k l = position (integrator_of k) (side_at l) (need_at (integrator_of k) l)

abbrev pub satellite_at : Model → Last → Satellite
satellite_at k l = record { model = k; place = place_at k l }

-- one time, in range or not

row_by : (k : Model) (l : Last) (t : ℤ) (b : Bool) → (choose b (inside k (place_at k l) t) (outside (place_at k l))).row ≡ (choose b (inside k (place_at k none) t) (outside (place_at k none))).row
unfolding reached advance_of
row_by k l t true =
    let i = integrator_of k in
    ap (λ p. row_from k p t)
    (advanced_position i (side_at l) (side_of t) (need_at i l) (stride_need i t) ∙ sym (advanced_position i Forward (side_of t) 0 (stride_need i t)))
row_by k l t false = refl

pub row_step : (k : Model) (l : Last) (t : ℤ) → (answered (satellite_at k l) t).row ≡ (answered (satellite_at k none) t).row
unfolding asked
row_step k l t = row_by k l t (in_range t)

place_by : (k : Model) (l : Last) (t : ℤ) (b : Bool) → (choose b (inside k (place_at k l) t) (outside (place_at k l))).place ≡ place_at k (cond b (after t) l)
unfolding reached advance_of
place_by k l t true = let i = integrator_of k in advanced_position i (side_at l) (side_of t) (need_at i l) (stride_need i t)
place_by k l t false = refl

pub satellite_step : (k : Model) (l : Last) (t : ℤ) → (answered (satellite_at k l) t).satellite ≡ satellite_at k (last_of l t)
unfolding asked
satellite_step k l t = ap (λ p. record { model = k; place = p }) (place_by k l t (in_range t))

either : (b : Bool) (m : ℕ) → cond b (m - 0) m ≡ m
either true m = omega arith
either false m = refl

count_in_lem : (k : Model) (l : Last) (t : ℤ) → (inside k (place_at k l) t).strides.0 ≡ count_in (integrator_of k) l t
unfolding reached advance_of rise serves
count_in_lem k none t =
    let i = integrator_of k in
    strides_position i Forward (side_of t) 0 (stride_need i t) ∙ either (serves Forward 0 (side_of t) (stride_need i t)) (stride_need i t)
count_in_lem k (after u) t = let i = integrator_of k in strides_position i (side_of u) (side_of t) (stride_need i u) (stride_need i t)

count_by : (k : Model) (l : Last) (t : ℤ) (b : Bool) → (choose b (inside k (place_at k l) t) (outside (place_at k l))).strides.0 ≡ cond b (count_in (integrator_of k) l t) 0
count_by k l t true = count_in_lem k l t
count_by k l t false = refl

count_step : (k : Model) (l : Last) (t : ℤ) → (answered (satellite_at k l) t).strides.0 ≡ count_of (integrator_of k) l t
unfolding asked
count_step k l t = count_by k l t (in_range t)

-- ── a list of times ──

rows_list : (k : Model) (l : Last) (ts : List ℤ) → rows_from (satellite_at k l) ts ≡ map (row_alone (satellite_at k none)) ts
rows_list k l [] = refl
rows_list k l (t ∷ ts) = rw (satellite_step k l t, row_step k l t) (ap (λ rs. (answered (satellite_at k none) t).row ∷ rs) (rows_list k (last_of l t) ts))

satellite_list : (k : Model) (l : Last) (ts : List ℤ) → satellite_from (satellite_at k l) ts ≡ satellite_at k (lasts_of l ts)
satellite_list k l [] = refl
satellite_list k l (t ∷ ts) = rw (satellite_step k l t) (satellite_list k (last_of l t) ts)

count_list : (k : Model) (l : Last) (ts : List ℤ) → strides_from (satellite_at k l) ts ≡ counts_of (integrator_of k) l ts
count_list k l [] = refl
count_list k l (t ∷ ts) = rw (satellite_step k l t, count_step k l t, count_list k (last_of l t) ts)

-- ── a sequence of requests ──

request_rows : (s : Satellite) (r : Request) → (outcome s r).rows ≡ rows_from s (row_times (epoch s) r)
request_rows s (One t) = refl
request_rows s (Many ts a b c) = refl
request_rows s (Windows c) = refl

request_strides : (s : Satellite) (r : Request) → (outcome s r).strides ≡ strides_from s (row_times (epoch s) r)
request_strides s (One t) = omega arith
request_strides s (Many ts a b c) = refl
request_strides s (Windows c) = refl

request_satellite : (s : Satellite) (r : Request) → (outcome s r).satellite ≡ satellite_from s (row_times (epoch s) r)
request_satellite s (One t) = refl
request_satellite s (Many ts a b c) = refl
request_satellite s (Windows c) = refl

-- the epoch of a model, which no request changes
abbrev of : Model → ℕ
of k = k.epoch.0

next : (k : Model) (l : Last) (r : Request) → (outcome (satellite_at k l) r).satellite ≡ satellite_at k (lasts_of l (row_times (of k) r))
next k l r = request_satellite (satellite_at k l) r ∙ satellite_list k l (row_times (of k) r)

rows_run : (k : Model) (l : Last) (rs : List Request) → map (λ o. o.rows) (run (satellite_at k l) rs) ≡ map (λ r. map (row_alone (satellite_at k none)) (row_times (of k) r)) rs
rows_run k l [] = refl
rows_run k l (r ∷ rs) =
    rw (next k l r, rows_run k (lasts_of l (row_times (of k) r)) rs)
    (ap (λ x. x ∷ map (λ r. map (row_alone (satellite_at k none)) (row_times (of k) r)) rs) (request_rows (satellite_at k l) r ∙ rows_list k l (row_times (of k) r)))

-- a call's windows are those of the rows of newly opened satellites
request_windows : (k : Model) (l : Last) (r : Request) → (outcome (satellite_at k l) r).windows ≡ windows_alone (satellite_at k none) r
request_windows k l (One t) = refl
request_windows k l (Many ts a b c) = refl
request_windows k l (Windows c) = ap (windows_of c) (rows_list k l (times_of (of k) (instants_of c)))

windows_run : (k : Model) (l : Last) (rs : List Request) → map (λ o. o.windows) (run (satellite_at k l) rs) ≡ map (windows_alone (satellite_at k none)) rs
windows_run k l [] = refl
windows_run k l (r ∷ rs) = rw (next k l r, windows_run k (lasts_of l (row_times (of k) r)) rs, request_windows k l r)

counts_run : (k : Model) (l : Last) (rs : List Request) → reported (satellite_at k l) rs ≡ counted (of k) (integrator_of k) l rs
counts_run k l [] = refl
counts_run k l (r ∷ rs) =
    rw (next k l r, counts_run k (lasts_of l (row_times (of k) r)) rs)
    (ap (λ n. n ∷ counted (of k) (integrator_of k) (lasts_of l (row_times (of k) r)) rs) (request_strides (satellite_at k l) r ∙ count_list k l (row_times (of k) r)))

-- ── no request reports more than opening anew for each of its times in range ──

less_in : (i : Integrator) (l : Last) (t : ℤ) → count_in i l t ≤ stride_need i t
less_in i none t = omega arith
less_in i (after u) t = less (leb (stride_need i u) (stride_need i t) && (eqb (stride_need i u) 0 || same_side (side_of u) (side_of t)))
  where
    less : (b : Bool) → cond b (stride_need i t - stride_need i u) (stride_need i t) ≤ stride_need i t
    less true = omega arith
    less false = omega arith

alone_in : (k : Model) (t : ℤ) → in_range t ≡ true → strides_alone (satellite_at k none) t ≡ stride_need (integrator_of k) t
alone_in k t h = count_step k none t ∙ ap (λ b. cond b (stride_need (integrator_of k) t) 0) h

less_by : (k : Model) (l : Last) (t : ℤ) (n : ℕ) (ts : List ℤ) → n ≤ sum (map (strides_alone (satellite_at k none)) ts) → (b : Bool) → in_range t ≡ b
    → cond b (count_in (integrator_of k) l t) 0 + n ≤ sum (map (strides_alone (satellite_at k none)) (keep_if b t ts))
less_by k l t n ts h true e = omega (arith, less_in (integrator_of k) l t, alone_in k t e)
less_by k l t n ts h false e = omega arith

less_list : (k : Model) (l : Last) (ts : List ℤ) → counts_of (integrator_of k) l ts ≤ sum (map (strides_alone (satellite_at k none)) (ranged ts))
less_list k l [] = omega arith
less_list k l (t ∷ ts) = less_by k l t (counts_of (integrator_of k) (last_of l t) ts) (ranged ts) (less_list k (last_of l t) ts) (in_range t) refl

less_run : (e : ℕ) (k : Model) (l : Last) (rs : List Request) → NoMore (counted e (integrator_of k) l rs) (map (λ r. sum (map (strides_alone (satellite_at k none)) (ranged (row_times e r)))) rs)
less_run e k l [] = tt
less_run e k l (r ∷ rs) = (less_list k l (row_times e r), less_run e k (lasts_of l (row_times e r)) rs)

-- ── one-sided and outward: the total ──

counts_append : (i : Integrator) (l : Last) (ts us : List ℤ) → counts_of i l (ts ++ us) ≡ counts_of i l ts + counts_of i (lasts_of l ts) us
counts_append i l [] us = omega arith
counts_append i l (t ∷ ts) us = omega (arith, counts_append i (last_of l t) ts us)

sum_counts : (e : ℕ) (i : Integrator) (l : Last) (rs : List Request) → sum (counted e i l rs) ≡ counts_of i l (times e rs)
sum_counts e i l [] = refl
sum_counts e i l (r ∷ rs) = omega (arith, counts_append i l (row_times e r) (times e rs), sum_counts e i (lasts_of l (row_times e r)) rs)

mono_by : (b : Bool) (x y : ℕ) → x ≤ y → cond b (x / 43200000000) 0 ≤ cond b (y / 43200000000) 0
mono_by true x y h = omega arith
mono_by false x y h = omega arith

mono : (i : Integrator) (x y : ℕ) → x ≤ y → whole_strides i x ≤ whole_strides i y
unfolding whole_strides
mono i x y h = mono_by (resonant i.resonance) x y h

none_by : (b : Bool) → cond b (0 / 43200000000) 0 ≡ 0
none_by true = refl
none_by false = refl

none_at : (i : Integrator) → whole_strides i 0 ≡ 0
unfolding whole_strides
none_at i = none_by (resonant i.resonance)

same_refl : (d : Side) → same_side d d ≡ true
same_refl Forward = refl
same_refl Back = refl

same_both : (d a b : Side) → a ≡ d → b ≡ d → same_side a b ≡ true
same_both d a b p q = rw (p, q) (same_refl d)

or_right : (a b : Bool) → b ≡ true → a || b ≡ true
or_right true b h = refl
or_right false b h = h

or_left : (a b : Bool) → a ≡ true → a || b ≡ true
or_left a b h = rw h

-- a time no nearer than the last, on its side, counts the rise
rises : (i : Integrator) (d : Side) (l : Last) (t : ℤ) → (need_at i l ≡ 0) ⊎ (side_at l ≡ d) → (nat_abs t ≡ 0) ⊎ (side_of t ≡ d)
    → need_at i l ≤ stride_need i t → need_at i l + count_in i l t ≡ stride_need i t
rises i d none t hl ht le = omega arith
rises i d (after u) t hl ht le = rw (le-leb (stride_need i u) (stride_need i t) le, agree) (omega arith)
  where
    agree : eqb (stride_need i u) 0 || same_side (side_of u) (side_of t) ≡ true
    agree =
        ⊎_elim (λ z. or_left (eqb (stride_need i u) 0) (same_side (side_of u) (side_of t)) (eq-eqb (stride_need i u) 0 z))
        (λ hu. ⊎_elim
        (λ z. or_left (eqb (stride_need i u) 0) (same_side (side_of u) (side_of t)) (eq-eqb (stride_need i u) 0 (omega (arith, ap (whole_strides i) z, none_at i))))
        (λ h. or_right (eqb (stride_need i u) 0) (same_side (side_of u) (side_of t)) (same_both d (side_of u) (side_of t) hu h))
        ht)
        hl

-- the claim on a list of times, after a last time in range that is lo from the epoch
Far : Integrator → Side → List ℤ → Type 0
Far i d ts = (l : Last) (lo : ℕ) → need_at i l ≡ whole_strides i lo → (need_at i l ≡ 0) ⊎ (side_at l ≡ d)
    → Outward d lo (ranged ts) → whole_strides i lo + counts_of i l ts ≡ whole_strides i (max lo (farthest (ranged ts)))

far_by : (i : Integrator) (d : Side) (t : ℤ) (ts : List ℤ) → Far i d ts → (l : Last) (lo : ℕ) → need_at i l ≡ whole_strides i lo → (need_at i l ≡ 0) ⊎ (side_at l ≡ d)
    → (b : Bool) → Outward d lo (keep_if b t (ranged ts))
    → whole_strides i lo + (cond b (count_in i l t) 0 + counts_of i (cond b (after t) l) ts) ≡ whole_strides i (max lo (farthest (keep_if b t (ranged ts))))
unfolding Far
far_by i d t ts ih l lo hn hs false w = omega (arith, ih l lo hn hs w)
far_by i d t ts ih l lo hn hs true w =
    let e : max lo (max (nat_abs t) (farthest (ranged ts))) ≡ max (nat_abs t) (farthest (ranged ts)) = omega (arith, w.1) in
    let s : (stride_need i t ≡ 0) ⊎ (side_of t ≡ d) = ⊎_elim (λ z. inl (ap (whole_strides i) z ∙ none_at i)) (λ h. inr h) w.0 in
    rw e (omega (arith, rises i d l t hs w.0 (omega (arith, mono i lo (nat_abs t) w.1)), ih (after t) (nat_abs t) refl s w.2))

far : (i : Integrator) (d : Side) (ts : List ℤ) → Far i d ts
unfolding Far
far i d [] l lo hn hs o = let e : max lo 0 ≡ lo = omega arith in rw e (omega arith)
far i d (t ∷ ts) l lo hn hs o = far_by i d t ts (far i d ts) l lo hn hs (in_range t) o

total : (i : Integrator) (d : Side) (ts : List ℤ) → Outward d 0 (ranged ts) → counts_of i none ts ≡ whole_strides i (farthest (ranged ts))
unfolding Far
total i d ts o =
    let e : max 0 (farthest (ranged ts)) ≡ farthest (ranged ts) = omega arith in
    omega (arith, none_at i, far i d ts none 0 (sym (none_at i)) (inl refl) o, ap (whole_strides i) e)

-- ── demand 3 ──

at_start : (k : Model) (rs : List Request) → Demand3 (satellite_at k none) rs
at_start k rs = record {
  rows = rows_run k none rs;
  windows = windows_run k none rs;
  counts = counts_run k none rs;
  outward = λ d o. ap sum (counts_run k none rs) ∙ sum_counts (of k) (integrator_of k) none rs ∙ total (integrator_of k) d (times (of k) rs) o;
  no_more = rw (counts_run k none rs) (less_run (of k) k none rs);
}

-- of a satellite that stands at its epoch
pub from_epoch : (s : Satellite) → s.place ≡ epoch_of (integrator_of s.model) → (rs : List Request) → Demand3 s rs
from_epoch s h rs =
    subst (λ p. Demand3 (record { model = s.model; place = p }) rs) (position_zero (integrator_of s.model) Forward ∙ sym h) (at_start s.model rs)

-- a satellite newly opened does
epoch_by : (m : Method) → epoch_place m ≡ epoch_of (integrator_by m)
unfolding epoch_place no_integrator integrator_by at_epoch epoch_of
epoch_by methods.NearEarth = refl
epoch_by (methods.DeepSpace d) = refl

newly_place : (k : Model) → (newly k).place ≡ epoch_of (integrator_of k)
unfolding newly integrator_of
newly_place k = epoch_by k.method

pub opened_place : (r : Record) (s : Satellite) → open_of r ≡ Ok s → s.place ≡ epoch_of (integrator_of s.model)
opened_place r s h = ap (λ (z : Satellite). z.place) (made r s h).newly_opened ∙ newly_place s.model

-- two accepted lines, the satellite that they open to, and any sequence of requests
pub demand_3 : (line1 line2 : List ℕ) (r : Record) (s : Satellite) → read_of line1 line2 ≡ Ok r → open_of r ≡ Ok s
    → (rs : List Request) → Demand3 s rs
demand_3 line1 line2 r s reads opens rs = from_epoch s (opened_place r s opens) rs
