-- A whole script of requests run from two lines, and what demand 3 says of the memory that it leaves: specs/Demand3 of `sequences`, of running code. Definitions only.
use Rattle.std.specs.Prelude.{ℕ, ◌≡◌, Bool, true, false, List, [], ◌∷◌, ◌++◌, map, length, take, ℤ, Float, Err, Ok, Result}
use Rattle.resonance.specs.declared.place.Side.{Side}
use Rattle.resonance.specs.Time.{whole_strides}
use Rattle.sgp4.specs.Sgp4.{integrator_of}
use Rattle.opening.specs.declared.opening.Satellite.{Satellite}
use Rattle.opening.specs.declared.opening.PairRefusal.{PairRefusal}
use Rattle.opening.specs.declared.opening.PairRefusal.TheVariants as pair
use Rattle.tle.specs.Refusals.{Values, nothing, number_of, values_of}
use Rattle.opening.specs.Opening.{number, open_pair_of, pair_number, pair_values}
use Rattle.script_room.specs.Room.{suffices}
use Rattle.script.specs.declared.ScriptRefusal.{ScriptRefusal}
use Rattle.script.specs.declared.ScriptRefusal.TheVariants.{Short, Unopened}
use Rattle.requests.specs.Lists.{refusals_of, states_of, rounds_of, over}
use Rattle.sequences.specs.Demand3.{Request, One, Many, Windows, row_times, times, sum, none, counted, ranged, Outward, farthest, row_alone, strides_alone, windows_alone, NoMore, epoch}
use Rattle.script_steps.specs.Steps.{written, script, firsts_of, lasts_of}

-- ── demand 3 of the memory that a script leaves ──

-- the times of the rows that lie in the rooms, in order: those of all requests but the calls for windows
abbrev pub written_all : List Request → List ℤ
written_all [] = []
written_all (r ∷ rs) = written r ++ written_all rs

-- without a call they are the sequence's times: proved in proofs/Posts (`two_kinds`)
abbrev pub NoCall : List Request → Type 0
NoCall [] = Unit {0}
NoCall (One t ∷ rs) = NoCall rs
NoCall (Many ts a b c ∷ rs) = NoCall rs
NoCall (Windows c ∷ rs) = ⊥

abbrev pub TwoKinds : Type 0
TwoKinds = (e : ℕ) (rs : List Request) → NoCall rs → written_all rs ≡ times e rs

abbrev pub joined : {A : Type 0} → List (List A) → List A
joined [] = []
joined (x ∷ xs) = x ++ joined xs

-- s is the satellite newly opened; a, b and c are the rooms of the rows, f and l those of the windows, d has the strides of each request, e how many windows it gave
pub record Demanded (s : Satellite) (rs : List Request) (a : List ℕ) (b : List Float) (c f l d e a' : List ℕ) (b' : List Float) (c' f' l' d' e' : List ℕ) : Type 0 where
  pub refusals : a' ≡ over (refusals_of (map (row_alone s) (written_all rs))) a
  pub states : b' ≡ over (states_of (map (row_alone s) (written_all rs))) b
  pub rounds : c' ≡ over (rounds_of (map (row_alone s) (written_all rs))) c
  pub firsts : f' ≡ over (firsts_of (joined (map (windows_alone s) rs))) f
  pub lasts : l' ≡ over (lasts_of (joined (map (windows_alone s) rs))) l
  pub found : e' ≡ over (map length (map (windows_alone s) rs)) e
  pub counts : d' ≡ over (counted (epoch s) (integrator_of s.model) none rs) d
  pub outward : (x : Side) → Outward x 0 (ranged (times (epoch s) rs)) → sum (take (length rs) d') ≡ whole_strides (integrator_of s.model) (farthest (ranged (times (epoch s) rs)))
  pub no_more : NoMore (take (length rs) d') (map (λ r. sum (map (strides_alone s) (ranged (row_times (epoch s) r)))) rs)

-- what a script answers: that it was run; `Short`, a room or the times too short, and nothing is run; or the refusal of the lines
unfoldable pub ran_of : Bool → Result Satellite PairRefusal → Result (Unit {0}) ScriptRefusal
ran_of false o = Err Short
ran_of true (Ok s) = Ok tt
ran_of true (Err why) = Err (Unopened why)

-- document 01's number of each answer, and what comes back with it
unfoldable pub ran_number : Result (Unit {0}) ScriptRefusal → ℕ
ran_number (Ok tt) = 0
ran_number (Err Short) = 17
ran_number (Err (Unopened (pair.Unread why))) = number_of why
ran_number (Err (Unopened (pair.Refused why))) = number why

unfoldable pub ran_values : Result (Unit {0}) ScriptRefusal → Values
ran_values (Ok tt) = nothing
ran_values (Err Short) = nothing
ran_values (Err (Unopened (pair.Unread why))) = values_of why
ran_values (Err (Unopened (pair.Refused why))) = nothing

-- where the script has room, they are those of opening the two lines: proved in proofs/Numbers
abbrev pub AsOpening : Type 0
AsOpening = (o : Result Satellite PairRefusal) → (ran_number (ran_of true o) ≡ pair_number o) × (ran_values (ran_of true o) ≡ pair_values o)

-- the contract of `run_script`: the answer; nothing written unless it was run; and then demand 3 of the memory, for the satellite that the lines open to
pub record Post (line1 line2 ns : List ℕ) (ts : List ℤ) (ps : List Float) (qs : List ℕ) (a : List ℕ) (b : List Float) (c f l d e : List ℕ) (r : Result (Unit {0}) ScriptRefusal) (a' : List ℕ) (b' : List Float) (c' f' l' d' e' : List ℕ) : Type 0 where
  pub answer : r ≡ ran_of (suffices ns (length ts) (length a) (length b) (length c) (length d) (length ps) (length qs) (length e)) (open_pair_of line1 line2)
  pub unrun : (r ≡ Ok tt → ⊥) → (a' ≡ a) × (b' ≡ b) × (c' ≡ c) × (f' ≡ f) × (l' ≡ l) × (d' ≡ d) × (e' ≡ e)
  pub ran : (s : Satellite) → open_pair_of line1 line2 ≡ Ok s → r ≡ Ok tt → Demanded s (script s ns 0 ts ps qs (length a) (length b) (length c) (length f) (length l)) a b c f l d e a' b' c' f' l' d' e'
