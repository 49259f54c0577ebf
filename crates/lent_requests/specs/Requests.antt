-- Requests put to a satellite in memory that is lent: what `requests` gives for the satellite that lies there, and what is left in memory. Definitions only.
use Rattle.std.specs.Prelude.{ℕ, ◌≡◌, Bool, cond, ◌||◌, List, [], eqb, ltb, ℤ, length, Float}
use Rattle.sgp4.specs.declared.Row.{Row}
use Rattle.resonance.specs.declared.place.Place.{Place}
use Rattle.opening.specs.declared.opening.Satellite.{Satellite}
use Rattle.requests.specs.declared.Answered.{Answered}
use Rattle.requests.specs.Request.{answered}
use Rattle.requests.specs.Lists.{rows_from, strides_from, satellite_from, list_refusal, refusals_of, rounds_of, state_of, states_of, over}
use Rattle.storage.specs.Storage.{too_short, satellite_of, placed_numbers, placed_marks}
use Rattle.answers.specs.Answer.{answer}

-- ── one time ──

-- refusal 17: room for fewer than six numbers, or memory that holds no satellite
unfoldable pub request_short : List Float → List ℕ → List Float → Bool
request_short ns ms state = ltb (length state) 6 || too_short (length ns) (length ms)

-- position and velocity at the front of the room; nothing where the row is refused
unfoldable pub row_put : Row → List Float → List Float
row_put r state = cond (eqb r.refusal 0) (over (state_of r) state) state

-- "refusal 9 [..] leaves the satellite unchanged": it writes nothing. After every other row the position reached is saved
abbrev pub kept_numbers : ℕ → Place → List Float → List ℕ → List Float
kept_numbers refusal p ns ms = cond (eqb refusal 9) ns (placed_numbers p ns ms)

abbrev pub kept_marks : ℕ → Place → List Float → List ℕ → List ℕ
kept_marks refusal p ns ms = cond (eqb refusal 9) ms (placed_marks p ns ms)

-- the answer, and every element of the memory afterwards, from the answer x of the satellite in memory: of the satellite, only the saved position
pub record Requested (short : Bool) (x : Answered) (ns : List Float) (ms : List ℕ) (state : List Float) (r : ℕ) (ns' : List Float) (ms' : List ℕ) (state' : List Float) : Type 0 where
  pub answered : r ≡ cond short (answer 17 0 0 0) (answer x.row.refusal x.row.rounds 0 x.strides.0)
  pub numbers : ns' ≡ cond short ns (kept_numbers x.row.refusal x.satellite.place ns ms)
  pub marks : ms' ≡ cond short ms (kept_marks x.row.refusal x.satellite.place ns ms)
  pub states : state' ≡ cond short state (row_put x.row state)

abbrev pub RequestPost : List Float → List ℕ → ℤ → List Float → ℕ → List Float → List ℕ → List Float → Type 0
RequestPost ns ms t state = Requested (request_short ns ms state) (answered (satellite_of ns ms) t) ns ms state

-- ── a list ──

-- "A list: 18, 17": of memory with p numbers and q marks, n times, and rooms with a, b and c elements
unfoldable pub list_number : ℕ → ℕ → ℕ → ℕ → ℕ → ℕ → ℕ
list_number p q n a b c = cond (ltb 1024 n) 18 (cond (too_short p q) 17 (list_refusal n a b c))

-- the times that get rows: all, or none where the list is refused
abbrev pub row_times : ℕ → List ℤ → List ℤ
row_times refusal ts = cond (eqb refusal 0) ts []

-- a list answered saves the position that it reached; a list refused writes nothing
abbrev pub saved_numbers : ℕ → Place → List Float → List ℕ → List Float
saved_numbers refusal p ns ms = cond (eqb refusal 0) (placed_numbers p ns ms) ns

abbrev pub saved_marks : ℕ → Place → List Float → List ℕ → List ℕ
saved_marks refusal p ns ms = cond (eqb refusal 0) (placed_marks p ns ms) ms

-- with the refusal number k and the satellite s in memory
pub record Listed (k : ℕ) (s : Satellite) (ns : List Float) (ms : List ℕ) (ts : List ℤ) (a : List ℕ) (b : List Float) (c : List ℕ) (r : ℕ) (ns' : List Float) (ms' : List ℕ) (a' : List ℕ) (b' : List Float) (c' : List ℕ) : Type 0 where
  pub answered : r ≡ answer k 0 0 (strides_from s (row_times k ts))
  pub numbers : ns' ≡ saved_numbers k (satellite_from s (row_times k ts)).place ns ms
  pub marks : ms' ≡ saved_marks k (satellite_from s (row_times k ts)).place ns ms
  pub refusals : a' ≡ over (refusals_of (rows_from s (row_times k ts))) a
  pub states : b' ≡ over (states_of (rows_from s (row_times k ts))) b
  pub rounds : c' ≡ over (rounds_of (rows_from s (row_times k ts))) c

abbrev pub ListPost : List Float → List ℕ → List ℤ → List ℕ → List Float → List ℕ → ℕ → List Float → List ℕ → List ℕ → List Float → List ℕ → Type 0
ListPost ns ms ts a b c = Listed (list_number (length ns) (length ms) (length ts) (length a) (length b) (length c)) (satellite_of ns ms) ns ms ts a b c
