-- What is claimed of every call for windows (specs/Claims).
use mathlib.Core.Path.{◌≡◌, refl, ap, ◌∙◌}
use mathlib.Core.Bool.{Bool, true, false}
use mathlib.Core.List.{List, [], ◌∷◌, map}
use Prim.Native.Nat.{ℕ, zero, suc, ◌+◌, ◌*◌, ◌≤◌, ◌<◌}
use native.Mathlib.Omega.{arith}
use native.Mathlib.Nat.{mul-le-mul_right}
use lib.ListN.{length, get_or}
use lib.Dec.{eqb}
use lib.IntN.{sub_ℕ}
use lib.Ieee.{Float}
use borrow.Author.Tests.{eq-eqb, ne_eqb, eqb-true}
use Rattle.instant.specs.Calendar.{in_calendar}
use Rattle.runs.specs.Runs.{Sample}
use Rattle.runs.specs.Words.{sample_at}
use Rattle.runs.proofs.Room.{room_enough}
use Rattle.runs.proofs.Words as runs
use Rattle.sgp4.specs.declared.Row.{Row}
use Rattle.sgp4.specs.Row.{refused_row}
use Rattle.opening.specs.declared.opening.Satellite.{Satellite}
use Rattle.requests.specs.Request.{answered}
use Rattle.requests.specs.Lists.{rows_from}
use Rattle.windows.specs.Windows.{Call, few_places, call_refusal, sample_micros, instants_from, instants_of, times_of, next_if, rest_if, sampled_of, samples_of, windows_of}
use Rattle.windows.specs.Claims.{InWords, FitsPlaces, FewWindows, row_by, sample_rows, RowByRow, RefusedNothing}
use Rattle.windows.proofs.Refusing.{meets, meets_step, places_enough}

impossible : {A : Type 0} → ⊥ → A
impossible = elim [ ]

next_instant : (b : Bool) (x : ℕ) (rs : List Row) → (next_if b x rs).instant ≡ x
next_instant true x [] = refl
next_instant true x (r ∷ rs) = refl
next_instant false x rs = refl

samples_length : (p : List Float) (xs : List ℕ) (rs : List Row) → length (samples_of p xs rs) ≡ length xs
samples_length p [] rs = refl
samples_length p (x ∷ xs) rs = ap suc (samples_length p xs (rest_if (in_calendar x) rs))

samples_instant : (p : List Float) (xs : List ℕ) (rs : List Row) (m : ℕ) → m < length xs → (sample_at (samples_of p xs rs) m).instant ≡ get_or xs m 0
samples_instant p [] rs m h = impossible (omega arith)
samples_instant p (x ∷ xs) rs zero h = next_instant (in_calendar x) x rs
samples_instant p (x ∷ xs) rs (suc m) h = samples_instant p xs (rest_if (in_calendar x) rs) m (omega arith)

instants_length : (start step i n : ℕ) → length (instants_from start step i n) ≡ n
instants_length start step i zero = refl
instants_length start step i (suc n) = ap suc (instants_length start step (suc i) n)

instants_at : (start step i n m : ℕ) → m < n → get_or (instants_from start step i n) m 0 ≡ sample_micros start step (i + m)
instants_at start step i zero m h = impossible (omega arith)
instants_at start step i (suc n) zero h = let z : i ≡ i + 0 = omega arith in ap (sample_micros start step) z
instants_at start step i (suc n) (suc m) h =
    let z : suc i + m ≡ i + suc m = omega arith in
    instants_at start step (suc i) n m (omega arith) ∙ ap (sample_micros start step) z

instants_rise : (start step a b : ℕ) → 0 < step → a < b → sample_micros start step a < sample_micros start step b
instants_rise start step a b s h =
    let k : suc a * step ≤ b * step = mul-le-mul_right step h in
    omega arith

module _ (p : List Float) (start step n : ℕ) (rs : List Row) (s : 0 < step) where
  abbrev all : List Sample
  all = samples_of p (instants_from start step 0 n) rs

  the_instant : (m : ℕ) → m < length all → (sample_at all m).instant ≡ sample_micros start step m
  the_instant m h =
      let l = samples_length p (instants_from start step 0 n) rs in
      let k = instants_length start step 0 n in
      let z : 0 + m ≡ m = omega arith in
      samples_instant p (instants_from start step 0 n) rs m (omega (arith, l)) ∙ instants_at start step 0 n m (omega (arith, l, k)) ∙ ap (sample_micros start step) z

  the_rise : (a b : ℕ) → a < b → b < length all → (sample_at all a).instant < (sample_at all b).instant
  the_rise a b h l = omega (arith, the_instant a (omega arith), the_instant b l, instants_rise start step a b s h)

all_of : (c : Call) → call_refusal c ≡ 0 → instants_of c ≡ instants_from c.start c.step 0 c.samples
all_of c h = rw (eq-eqb (call_refusal c) 0 h)

pub in_words : InWords
in_words c rs h =
    let xs = instants_from c.start c.step 0 c.samples in
    rw (all_of c h)
    (runs.in_words (samples_of c.station xs rs)
    (the_rise c.station c.start c.step c.samples rs (meets_step c.station c.step c.samples (few_places c.samples c.places) h)))

pub fits_places : FitsPlaces
fits_places c rs h =
    let xs = instants_from c.start c.step 0 c.samples in
    let m = meets c.station c.step c.samples (few_places c.samples c.places) h in
    rw (all_of c h)
    (omega
    (arith, room_enough (samples_of c.station xs rs), samples_length c.station xs rs, instants_length c.start c.step 0 c.samples, places_enough c.samples c.places m.1.1))

few_by : (b : Bool) (c : Call) (rs : List Row) → eqb (call_refusal c) 0 ≡ b → length (windows_of c rs) ≤ 512
few_by true c rs e =
    let h = eqb-true (call_refusal c) 0 e in
    let xs = instants_from c.start c.step 0 c.samples in
    let m = meets c.station c.step c.samples (few_places c.samples c.places) h in
    rw (all_of c h)
    (omega (arith, room_enough (samples_of c.station xs rs), samples_length c.station xs rs, instants_length c.start c.step 0 c.samples, m.1.0))
few_by false c rs e = rw e (omega arith)

pub few_windows : FewWindows
few_windows c rs = few_by (eqb (call_refusal c) 0) c rs refl

-- the rows of the samples, one after the other
row_step : (b : Bool) (e : ℕ) (s : Satellite) (x : ℕ) (xs : List ℕ) → in_calendar x ≡ b
    → ((t : Satellite) → map (λ r. r.row) (sampled_of xs (rows_from t (times_of e xs))) ≡ sample_rows e t xs)
    → map (λ r. r.row) (sampled_of (x ∷ xs) (rows_from s (times_of e (x ∷ xs)))) ≡ row_by b e x s (λ t. sample_rows e t xs)
row_step true e s x xs h f = rw h (ap (λ l. (answered s (sub_ℕ x e)).row ∷ l) (f (answered s (sub_ℕ x e)).satellite))
row_step false e s x xs h f = rw h (ap (λ l. refused_row 6 ∷ l) (f s))

pub row_by_row : RowByRow
row_by_row e s [] = refl
row_by_row e s (x ∷ xs) = row_step (in_calendar x) e s x xs refl (λ t. row_by_row e t xs)

pub refused_nothing : RefusedNothing
refused_nothing s c h = let none : instants_of c ≡ [] = rw (ne_eqb (call_refusal c) 0 h) in rw none
