-- What the code answers of a near-Earth satellite: the full program's row without its deep-space branch. `near_row_lem` of proofs/Near: it is the row of
-- specs/Request, whatever the satellite's epoch and saved position. Definitions only.
use Rattle.std.specs.Prelude.{ℕ, ◌≡◌, Bool, cond, List, map, ltb, length, ℤ, Float}
use Rattle.instant.specs.Quantity.{minutes_of}
use Rattle.satellite.specs.declared.NearEarth.{NearEarth}
use Rattle.state.specs.Kept.{sgp4_from}
use Rattle.sgp4.specs.declared.Row.{Row}
use Rattle.sgp4.specs.Row.{refused_row, row_of}
use Rattle.requests.specs.Lists.{list_refusal, list_times, refusals_of, states_of, rounds_of, over}
use Rattle.lent_requests.specs.Requests.{row_put}
use Rattle.profile.specs.declared.rows.Asked.{Asked}
use Rattle.profile.specs.declared.rows.Listed.{Listed}
use Rattle.profile.specs.Request.{taken}
use Rattle.profile.specs.Lists.{any_taken}

unfoldable pub near_row : NearEarth → ℤ → Row
near_row n t = cond (taken t) (row_of (sgp4_from n (record { 0 = minutes_of t }))) (refused_row 33)

-- ── one time: 17 where the room has fewer than six places, and nothing is written ──

abbrev pub asked : Row → ℕ → Asked
asked r room = cond (ltb room 6) (record { refusal = 17; rounds = 0 }) (record { refusal = r.refusal; rounds = r.rounds })

abbrev pub room_after : Row → List Float → List Float
room_after r state = cond (ltb (length state) 6) state (row_put r state)

-- ── a list: 18 and 17 as the full program has them ──

abbrev pub near_rows : NearEarth → List ℤ → List Row
near_rows n ts = map (near_row n) ts

-- every element of rooms a₀, b₀ and c₀ that are long enough, when the rows of ts are written
pub record Filled (n : NearEarth) (ts : List ℤ) (a₀ : List ℕ) (b₀ : List Float) (c₀ : List ℕ) (any : Bool) (a : List ℕ) (b : List Float) (c : List ℕ) : Type 0 where
  pub any_taken_lem : any ≡ any_taken ts
  pub refusals : a ≡ over (refusals_of (near_rows n ts)) a₀
  pub states : b ≡ over (states_of (near_rows n ts)) b₀
  pub rounds : c ≡ over (rounds_of (near_rows n ts)) c₀

abbrev pub listed : List ℤ → ℕ → ℕ → ℕ → Listed
listed ts a b c = record { refusal = list_refusal (length ts) a b c; taken = any_taken (list_times ts a b c) }

-- what a list answers, and every element of the rooms a, b and c afterwards
pub record RowsPost (n : NearEarth) (ts : List ℤ) (a : List ℕ) (b : List Float) (c : List ℕ) (r : Listed) (a' : List ℕ) (b' : List Float) (c' : List ℕ) : Type 0 where
  pub answer : r ≡ listed ts (length a) (length b) (length c)
  pub refusals : a' ≡ over (refusals_of (near_rows n (list_times ts (length a) (length b) (length c)))) a
  pub states : b' ≡ over (states_of (near_rows n (list_times ts (length a) (length b) (length c)))) b
  pub rounds : c' ≡ over (rounds_of (near_rows n (list_times ts (length a) (length b) (length c)))) c
