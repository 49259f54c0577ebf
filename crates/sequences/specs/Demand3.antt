-- Demand 3: document 01, "Steps of the model", its third paragraph, as one claim about a whole sequence of requests, with document 02's wish 10: calls for
-- windows may stand among them. Definitions only.
-- The theorem is `demand_3` of proofs/Demand3: for any two lines, where reading them gives a record and opening it gives a satellite s,
-- `Demand3 s rs` holds of every finite sequence rs of requests. `run` is what the contracts of `request`, `request_list` and `windows` say, one after the other.
-- e is the instant of the satellite's epoch, from which the times of a call's samples count.
use Rattle.std.specs.Prelude.{ℕ, ◌+◌, ◌-◌, ◌≤◌, max, ◌≡◌, Bool, true, false, cond, ◌&&◌, ◌||◌, ◌⊎◌, List, [], ◌∷◌, ◌++◌, map, leb, eqb, ℤ, nat_abs}
use Rattle.satellite.specs.declared.Integrator.{Integrator}
use Rattle.resonance.specs.declared.place.Side.{Side}
use Rattle.resonance.specs.Place.{same_side}
use Rattle.resonance.specs.Time.{side_of, in_range, stride_need, whole_strides}
use Rattle.sgp4.specs.declared.Row.{Row}
use Rattle.sgp4.specs.Sgp4.{integrator_of}
use Rattle.opening.specs.declared.opening.Satellite.{Satellite}
use Rattle.requests.specs.Request.{answered}
use Rattle.requests.specs.Lists.{rows_from, list_times, listed}
use Rattle.runs.specs.Runs.{Window}
use Rattle.windows.specs.Windows.{Call, instants_of, times_of, windows_of}
use Rattle.windows.specs.Answer.{call_times, windows_at, windowed}

-- ── a sequence of requests ──

-- one time; or a list, with the lengths of the three rooms that are lent; or a call for windows
pub data Request : Type 0 where
  One : ℤ → Request
  Many : List ℤ → ℕ → ℕ → ℕ → Request
  Windows : Call → Request

-- the times of a request's rows: "A single request's answer or refusal counts as a row; a list refused with 18 or 17 has none". Wish 10: "a refused one has
-- no rows", and "a row refused with 6 is not compared", takes no strides and leaves the saved position: it has no time here
abbrev pub row_times : ℕ → Request → List ℤ
row_times e (One t) = t ∷ []
row_times e (Many ts a b c) = list_times ts a b c
row_times e (Windows c) = times_of e (instants_of c)

-- what a request gives, in the words of the three functions' contracts; only a call for windows gives windows
pub record Outcome : Type 0 where
  pub rows : List Row
  pub strides : ℕ
  pub satellite : Satellite
  pub windows : List Window

abbrev pub outcome : Satellite → Request → Outcome
outcome s (One t) = let r = answered s t in record { rows = r.row ∷ []; strides = r.strides.0; satellite = r.satellite; windows = [] }
outcome s (Many ts a b c) =
    let r = listed s ts a b c in
    record { rows = rows_from s (list_times ts a b c); strides = r.strides.0; satellite = r.satellite; windows = [] }
outcome s (Windows c) =
    let r = windowed s c in
    record { rows = rows_from s (call_times s c); strides = r.strides.0; satellite = r.satellite; windows = windows_at s c }

-- "The first gets a newly opened satellite, each later one what the last gave back, refused or not; nothing else changes it"
abbrev pub run : Satellite → List Request → List Outcome
run s [] = []
run s (r ∷ rs) = outcome s r ∷ run (outcome s r).satellite rs

-- "The sequence's times are those of its rows, in order"
abbrev pub times : ℕ → List Request → List ℤ
times e [] = []
times e (r ∷ rs) = row_times e r ++ times e rs

abbrev pub sum : List ℕ → ℕ
sum [] = 0
sum (n ∷ ns) = n + sum ns

-- for each request, the strides that it reports
abbrev pub reported : Satellite → List Request → List ℕ
reported s rs = map (λ o. o.strides) (run s rs)

-- ── the count of strides ──

-- the last time in range so far
pub data Last : Type 0 where
  none : Last
  after : ℤ → Last

-- "An in-range time counts m less the m of the last in-range time before it in the sequence, if that m is no larger
-- and either is 0 or belongs to a time on the same side; otherwise it counts m, as after opening anew"
abbrev pub count_in : Integrator → Last → ℤ → ℕ
count_in i none t = stride_need i t
count_in i (after u) t =
    cond (leb (stride_need i u) (stride_need i t) && (eqb (stride_need i u) 0 || same_side (side_of u) (side_of t)))
    (stride_need i t - stride_need i u)
    (stride_need i t)

-- "A time out of range (refusal 9) counts none"
abbrev pub count_of : Integrator → Last → ℤ → ℕ
count_of i l t = cond (in_range t) (count_in i l t) 0

abbrev pub last_of : Last → ℤ → Last
last_of l t = cond (in_range t) (after t) l

-- "the sum of the strides of its rows' times, rows refused or not"
abbrev pub counts_of : Integrator → Last → List ℤ → ℕ
counts_of i l [] = 0
counts_of i l (t ∷ ts) = count_of i l t + counts_of i (last_of l t) ts

abbrev pub lasts_of : Last → List ℤ → Last
lasts_of l [] = l
lasts_of l (t ∷ ts) = lasts_of (last_of l t) ts

-- for each request, what its rows' times count
abbrev pub counted : ℕ → Integrator → Last → List Request → List ℕ
counted e i l [] = []
counted e i l (r ∷ rs) = counts_of i l (row_times e r) ∷ counted e i (lasts_of l (row_times e r)) rs

-- ── the times in range; one-sided and outward ──

abbrev pub keep_if : Bool → ℤ → List ℤ → List ℤ
keep_if true t ts = t ∷ ts
keep_if false t ts = ts

abbrev pub ranged : List ℤ → List ℤ
ranged [] = []
ranged (t ∷ ts) = keep_if (in_range t) t (ranged ts)

-- every time is on the side d, or at the epoch, and at least lo from it; none is nearer than an earlier one
abbrev pub Outward : Side → ℕ → List ℤ → Type 0
Outward d lo [] = Unit {0}
Outward d lo (t ∷ ts) = ((nat_abs t ≡ 0) ⊎ (side_of t ≡ d)) × (lo ≤ nat_abs t) × Outward d (nat_abs t) ts

abbrev pub farthest : List ℤ → ℕ
farthest [] = 0
farthest (t ∷ ts) = max (nat_abs t) (farthest ts)

-- ── opening anew ──

-- the row, and the strides, of the newly opened satellite s asked only the time t
abbrev pub row_alone : Satellite → ℤ → Row
row_alone s t = (answered s t).row

abbrev pub strides_alone : Satellite → ℤ → ℕ
strides_alone s t = (answered s t).strides.0

-- the windows of a request, from such rows: "any other gives the windows that the rows of newly opened satellites give"
abbrev pub windows_alone : Satellite → Request → List Window
windows_alone s (One t) = []
windows_alone s (Many ts a b c) = []
windows_alone s (Windows c) = windows_of c (map (row_alone s) (call_times s c))

-- each of xs at most its fellow of ys
abbrev pub NoMore : List ℕ → List ℕ → Type 0
NoMore [] [] = Unit {0}
NoMore [] (y ∷ ys) = ⊥
NoMore (x ∷ xs) [] = ⊥
NoMore (x ∷ xs) (y ∷ ys) = (x ≤ y) × NoMore xs ys

-- ── the claim ──

abbrev pub epoch : Satellite → ℕ
epoch s = s.model.epoch.0

-- of a satellite s newly opened:
--   rows      every request's rows are those of s asked only those times
--   windows   every call's windows are those of such rows
--   counts    every request reports exactly what its rows' times count
--   outward   where the times in range are one-sided and outward, the total is the whole strides to the farthest (0 without resonance)
--   no_more    no request reports more than opening anew for each of its in-range times would
pub record Demand3 (s : Satellite) (rs : List Request) : Type 0 where
  pub rows : map (λ o. o.rows) (run s rs) ≡ map (λ r. map (row_alone s) (row_times (epoch s) r)) rs
  pub windows : map (λ o. o.windows) (run s rs) ≡ map (windows_alone s) rs
  pub counts : reported s rs ≡ counted (epoch s) (integrator_of s.model) none rs
  pub outward : (d : Side) → Outward d 0 (ranged (times (epoch s) rs)) → sum (reported s rs) ≡ whole_strides (integrator_of s.model) (farthest (ranged (times (epoch s) rs)))
  pub no_more : NoMore (reported s rs) (map (λ r. sum (map (strides_alone s) (ranged (row_times (epoch s) r)))) rs)
