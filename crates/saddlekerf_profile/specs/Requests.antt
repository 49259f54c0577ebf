-- Requests put to a satellite in memory that is lent: what the profile (specs/Request of crate profile) gives for the satellite that lies there by the full
-- program's layout, and what is left in memory. Definitions only.
use Rattle.std.specs.Prelude.{ℕ, ◌≡◌, Bool, false, cond, ◌||◌, List, eqb, ltb, ℤ, length, Float}
use Rattle.sgp4.specs.declared.Row.{Row}
use Rattle.resonance.specs.declared.place.Place.{Place}
use Rattle.opening.specs.declared.opening.Satellite.{Satellite}
use Rattle.requests.specs.declared.Answered.{Answered}
use Rattle.requests.specs.Lists.{list_refusal, refusals_of, rounds_of, states_of, over}
use Rattle.lent_requests.specs.Requests.{row_put, row_times}
use Rattle.storage.specs.Storage.{satellite_of, place_at, place_numbers, place_marks}
use Rattle.storage.specs.Near.{near_short}
use Rattle.profile.specs.Request.{beyond, answered, settled}
use Rattle.profile.specs.Lists.{rows_of, any_taken, satellite_after}
use Rattle.answers.specs.Answer.{answer}

-- "handed a deep-space or resonant satellite"
unfoldable pub deep_held : List Float → List ℕ → Bool
deep_held ns ms = cond (near_short (length ns) (length ms)) false (beyond (satellite_of ns ms))

-- ── one time ──

-- 32 first of all, then 17: room for fewer than six numbers, or memory that holds no satellite
unfoldable pub request_number : List Float → List ℕ → List Float → ℕ
request_number ns ms state = cond (deep_held ns ms) 32 (cond (ltb (length state) 6 || near_short (length ns) (length ms)) 17 0)

-- 33 writes nothing. After every other row the position reached is saved
abbrev pub kept_numbers : ℕ → Place → List Float → List Float
kept_numbers refusal p ns = cond (eqb refusal 33) ns (over (place_numbers p) ns)

abbrev pub kept_marks : ℕ → Place → List ℕ → List ℕ
kept_marks refusal p ms = cond (eqb refusal 33) ms (over (place_marks p) ms)

-- The answer, and every element of the memory afterwards, from the refusal k, 0 where there is none, and the answer x of the satellite in memory: of the
-- satellite, only the saved position
pub record Requested (k : ℕ) (x : Answered) (ns : List Float) (ms : List ℕ) (state : List Float) (r : ℕ) (ns' : List Float) (ms' : List ℕ) (state' : List Float) : Type 0 where
  pub answered : r ≡ cond (eqb k 0) (answer x.row.refusal x.row.rounds 0 x.strides.0) (answer k 0 0 0)
  pub numbers : ns' ≡ cond (eqb k 0) (kept_numbers x.row.refusal x.satellite.place ns) ns
  pub marks : ms' ≡ cond (eqb k 0) (kept_marks x.row.refusal x.satellite.place ms) ms
  pub states : state' ≡ cond (eqb k 0) (row_put x.row state) state

abbrev pub RequestPost : List Float → List ℕ → ℤ → List Float → ℕ → List Float → List ℕ → List Float → Type 0
RequestPost ns ms t state = Requested (request_number ns ms state) (answered (satellite_of ns ms) t) ns ms state

-- ── a list ──

-- 32 first of all, then "A list: 18, 17": of n times, and rooms with a, b and c elements
unfoldable pub list_number : List Float → List ℕ → ℕ → ℕ → ℕ → ℕ → ℕ
list_number ns ms n a b c = cond (deep_held ns ms) 32 (cond (ltb 1024 n) 18 (cond (near_short (length ns) (length ms)) 17 (list_refusal n a b c)))

-- where one of the times with rows is taken, the position reached is saved; else nothing is written
abbrev pub saved_numbers : List ℤ → Place → List Float → List Float
saved_numbers us p ns = cond (any_taken us) (over (place_numbers p) ns) ns

abbrev pub saved_marks : List ℤ → Place → List ℕ → List ℕ
saved_marks us p ms = cond (any_taken us) (over (place_marks p) ms) ms

-- with the refusal number k, the satellite s in memory and the times us that get rows: all, or none where the list is refused
pub record Listed (k : ℕ) (s : Satellite) (us : List ℤ) (ns : List Float) (ms : List ℕ) (a : List ℕ) (b : List Float) (c : List ℕ) (r : ℕ) (ns' : List Float) (ms' : List ℕ) (a' : List ℕ) (b' : List Float) (c' : List ℕ) : Type 0 where
  pub answered : r ≡ answer k 0 0 0
  pub numbers : ns' ≡ saved_numbers us (satellite_after s us).place ns
  pub marks : ms' ≡ saved_marks us (satellite_after s us).place ms
  pub refusals : a' ≡ over (refusals_of (rows_of s us)) a
  pub states : b' ≡ over (states_of (rows_of s us)) b
  pub rounds : c' ≡ over (rounds_of (rows_of s us)) c

abbrev pub ListPost : List Float → List ℕ → List ℤ → List ℕ → List Float → List ℕ → ℕ → List Float → List ℕ → List ℕ → List Float → List ℕ → Type 0
ListPost ns ms ts a b c =
    let k = list_number ns ms (length ts) (length a) (length b) (length c) in
    Listed k (satellite_of ns ms) (row_times k ts) ns ms a b c

-- ── what the code does with a near-Earth satellite's memory ──

abbrev pub settled_numbers : List Float → List ℕ → List Float
settled_numbers ns ms = over (place_numbers (settled (place_at ns ms))) ns

abbrev pub settled_marks : List Float → List ℕ → List ℕ
settled_marks ns ms = over (place_marks (settled (place_at ns ms))) ms

abbrev pub near_kept_numbers : ℕ → List Float → List ℕ → List Float
near_kept_numbers refusal ns ms = cond (eqb refusal 33) ns (settled_numbers ns ms)

abbrev pub near_kept_marks : ℕ → List Float → List ℕ → List ℕ
near_kept_marks refusal ns ms = cond (eqb refusal 33) ms (settled_marks ns ms)

pub record NearAsked (row : Row) (ns : List Float) (ms : List ℕ) (state : List Float) (r : ℕ) (ns' : List Float) (ms' : List ℕ) (state' : List Float) : Type 0 where
  pub answered : r ≡ cond (ltb (length state) 6) (answer 17 0 0 0) (answer row.refusal row.rounds 0 0)
  pub numbers : ns' ≡ cond (ltb (length state) 6) ns (near_kept_numbers row.refusal ns ms)
  pub marks : ms' ≡ cond (ltb (length state) 6) ms (near_kept_marks row.refusal ns ms)
  pub states : state' ≡ cond (ltb (length state) 6) state (row_put row state)

abbrev pub near_saved_numbers : Bool → List Float → List ℕ → List Float
near_saved_numbers any ns ms = cond any (settled_numbers ns ms) ns

abbrev pub near_saved_marks : Bool → List Float → List ℕ → List ℕ
near_saved_marks any ns ms = cond any (settled_marks ns ms) ms

unfoldable pub short_list : ℕ → ℕ
short_list n = cond (ltb 1024 n) 18 17
