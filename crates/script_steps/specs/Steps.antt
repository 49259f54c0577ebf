-- The requests of a script in lent memory, and what they leave there. Definitions only.
use Rattle.std.specs.Prelude.{ℕ, zero, suc, ◌+◌, ◌-◌, ◌*◌, ◌≡◌, Bool, true, false, List, [], ◌∷◌, ◌++◌, map, length, take, drop, get_or, ℤ, pos, Float}
use Rattle.std.specs.Float.{nan}
use Rattle.sgp4.specs.declared.Row.{Row}
use Rattle.opening.specs.declared.opening.Satellite.{Satellite}
use Rattle.requests.specs.Lists.{list_times, refusals_of, states_of, rounds_of, over}
use Rattle.runs.specs.Runs.{Window}
use Rattle.windows.specs.Windows.{Call}
use Rattle.windows.specs.Answer.{call_of}
use Rattle.sequences.specs.Demand3.{Request, One, Many, Windows, Outcome, outcome}
use Rattle.script_room.specs.Room.{taken, suffices}
use Rattle.script_steps.specs.declared.Asked.{Asked}

-- ── the script ──

-- what request j asks where it is a call for windows: its station is three of ps; its start, step and number of samples are three of qs
abbrev pub asked_at : ℕ → List Float → List ℕ → Asked
asked_at j ps qs = record {
  station = get_or ps (3 * j) nan ∷ get_or ps (3 * j + 1) nan ∷ get_or ps (3 * j + 2) nan ∷ [];
  start = record { 0 = get_or qs (3 * j) 0 };
  step = record { 0 = get_or qs (3 * j + 1) 0 };
  samples = get_or qs (3 * j + 2) 0;
}

-- its call, which is lent f and l places
abbrev pub call_by : Asked → ℕ → ℕ → Call
call_by q f l = call_of q.station q.start.0 q.step.0 q.samples f l

abbrev pub call_at : ℕ → List Float → List ℕ → ℕ → ℕ → Call
call_at j ps qs f l = call_by (asked_at j ps qs) f l

-- request j, of the times that are left, and of rooms with a, b and c elements left for rows, and f and l for windows
abbrev pub request_of : ℕ → ℕ → List ℤ → List Float → List ℕ → ℕ → ℕ → ℕ → ℕ → ℕ → Request
request_of zero j ts ps qs a b c f l = One (get_or ts 0 (pos 0))
request_of (suc zero) j ts ps qs a b c f l = Windows (call_at j ps qs f l)
request_of (suc (suc n)) j ts ps qs a b c f l = Many (take n ts) a b c

-- the times of the rows that a request writes into the rooms; a call for windows writes none
abbrev pub written : Request → List ℤ
written (One t) = t ∷ []
written (Many ts a b c) = list_times ts a b c
written (Windows c) = []

-- what a request gives, of which it leaves all but a call's rows
abbrev pub laid : Satellite → Request → Outcome
laid s (One t) = outcome s (One t)
laid s (Many ts a b c) = outcome s (Many ts a b c)
laid s (Windows c) =
    let o = outcome s (Windows c) in
    record { rows = []; strides = o.strides; satellite = o.satellite; windows = o.windows }

-- the rows, and the windows, of each request follow those of the one before. How many windows a call gives, and so what the next is lent, is the
-- satellite's matter
unfoldable pub script : Satellite → List ℕ → ℕ → List ℤ → List Float → List ℕ → ℕ → ℕ → ℕ → ℕ → ℕ → List Request
script s [] j ts ps qs a b c f l = []
script s (n ∷ ns) j ts ps qs a b c f l =
    let r = request_of n j ts ps qs a b c f l in
    let k = length (written r) in
    let w = length (laid s r).windows in
    r ∷ script (laid s r).satellite ns (suc j) (drop (taken n) ts) ps qs (a - k) (b - 6 * k) (c - k) (f - w) (l - w)

-- ── what is left in memory ──

abbrev pub laid_all : Satellite → List Request → List Outcome
laid_all s [] = []
laid_all s (r ∷ rs) = laid s r ∷ laid_all (laid s r).satellite rs

abbrev pub rows_of : List Outcome → List Row
rows_of [] = []
rows_of (o ∷ os) = o.rows ++ rows_of os

abbrev pub windows_of : List Outcome → List Window
windows_of [] = []
windows_of (o ∷ os) = o.windows ++ windows_of os

abbrev pub firsts_of : List Window → List ℕ
firsts_of ws = map (λ w. w.first) ws

abbrev pub lasts_of : List Window → List ℕ
lasts_of ws = map (λ w. w.last) ws

abbrev pub strides_of : List Outcome → List ℕ
strides_of os = map (λ o. o.strides) os

abbrev pub found_of : List Outcome → List ℕ
found_of os = map (λ o. length o.windows) os

-- the times of the request r put to s as a list, after `rows` rows: what it gives back, the rows that it adds, and the rooms a, b and c
pub record Listed (s : Satellite) (r : Request) (rows : ℕ) (a : List ℕ) (b : List Float) (c : List ℕ) (s' : Satellite) (n k : ℕ) (a' : List ℕ) (b' : List Float) (c' : List ℕ) : Type 0 where
  pub satellite : s' ≡ (outcome s r).satellite
  pub strides : n ≡ (outcome s r).strides
  pub added : k ≡ length (written r)
  pub refusals : a' ≡ take rows a ++ over (refusals_of (outcome s r).rows) (drop rows a)
  pub states : b' ≡ take (6 * rows) b ++ over (states_of (outcome s r).rows) (drop (6 * rows) b)
  pub rounds : c' ≡ take rows c ++ over (rounds_of (outcome s r).rows) (drop rows c)

-- after them, with m strides, the call c where the request n is one, else nothing
abbrev pub nothing : Satellite → ℕ → Outcome
nothing s m = record { rows = []; strides = m; satellite = s; windows = [] }

abbrev pub called : ℕ → Call → Satellite → ℕ → Outcome
called zero c s m = nothing s m
called (suc zero) c s m = laid s (Windows c)
called (suc (suc n)) c s m = nothing s m

-- `seen` windows lie in the rooms f and l already
pub record Called (n : ℕ) (q : Call) (s : Satellite) (m seen : ℕ) (f l : List ℕ) (s' : Satellite) (m' w : ℕ) (f' l' : List ℕ) : Type 0 where
  pub satellite : s' ≡ (called n q s m).satellite
  pub strides : m' ≡ (called n q s m).strides
  pub found : w ≡ length (called n q s m).windows
  pub firsts : f' ≡ take seen f ++ over (firsts_of (called n q s m).windows) (drop seen f)
  pub lasts : l' ≡ take seen l ++ over (lasts_of (called n q s m).windows) (drop seen l)

-- the rooms a, b, c (rows), f, l (windows), d (strides) and e (how many windows) after the requests rs, put to s one after the other
pub record Left (s : Satellite) (rs : List Request) (a : List ℕ) (b : List Float) (c f l d e a' : List ℕ) (b' : List Float) (c' f' l' d' e' : List ℕ) : Type 0 where
  pub refusals : a' ≡ over (refusals_of (rows_of (laid_all s rs))) a
  pub states : b' ≡ over (states_of (rows_of (laid_all s rs))) b
  pub rounds : c' ≡ over (rounds_of (rows_of (laid_all s rs))) c
  pub firsts : f' ≡ over (firsts_of (windows_of (laid_all s rs))) f
  pub lasts : l' ≡ over (lasts_of (windows_of (laid_all s rs))) l
  pub strides : d' ≡ over (strides_of (laid_all s rs)) d
  pub found : e' ≡ over (found_of (laid_all s rs)) e

-- the contract of `run_requests`: whether times and rooms suffice; nothing written unless they do
pub record Runs (s : Satellite) (ns : List ℕ) (ts : List ℤ) (ps : List Float) (qs a : List ℕ) (b : List Float) (c f l d e : List ℕ) (r : Bool) (a' : List ℕ) (b' : List Float) (c' f' l' d' e' : List ℕ) : Type 0 where
  pub answer : r ≡ suffices ns (length ts) (length a) (length b) (length c) (length d) (length ps) (length qs) (length e)
  pub unrun : r ≡ false → (a' ≡ a) × (b' ≡ b) × (c' ≡ c) × (f' ≡ f) × (l' ≡ l) × (d' ≡ d) × (e' ≡ e)
  pub ran : r ≡ true → Left s (script s ns 0 ts ps qs (length a) (length b) (length c) (length f) (length l)) a b c f l d e a' b' c' f' l' d' e'
