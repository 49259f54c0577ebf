-- A list of times, and what it leaves in the rooms that are lent: document 01, "Refusal numbers". Definitions only.
use Rattle.std.specs.Prelude.{ℕ, ◌+◌, ◌*◌, ◌≡◌, cond, List, [], ◌∷◌, ◌++◌, length, drop, eqb, ltb, ℤ, Float}
use Rattle.satellite.specs.declared.Model.{Model}
use Rattle.resonance.specs.declared.place.Place.{Place}
use Rattle.sgp4.specs.declared.Row.{Row}
use Rattle.opening.specs.declared.opening.Satellite.{Satellite}
use Rattle.requests.specs.declared.ListAnswer.{ListAnswer}
use Rattle.requests.specs.Request.{answered}

-- ── times one after the other, each put to the satellite as the last gave it back ──

abbrev pub rows_from : Satellite → List ℤ → List Row
rows_from s [] = []
rows_from s (t ∷ ts) = (answered s t).row ∷ rows_from (answered s t).satellite ts

abbrev pub strides_from : Satellite → List ℤ → ℕ
strides_from s [] = 0
strides_from s (t ∷ ts) = (answered s t).strides.0 + strides_from (answered s t).satellite ts

abbrev pub satellite_from : Satellite → List ℤ → Satellite
satellite_from s [] = s
satellite_from s (t ∷ ts) = satellite_from (answered s t).satellite ts

-- ── the answer ──

-- "A list: 18, 17": the number that n times are refused with where the rooms have a, b and c elements, and 0 where they are not
unfoldable pub list_refusal : ℕ → ℕ → ℕ → ℕ → ℕ
list_refusal n a b c = cond (ltb 1024 n) 18 (cond (ltb a n) 17 (cond (ltb b (6 * n)) 17 (cond (ltb c n) 17 0)))

-- the times that get rows: all, or none where the list is refused
abbrev pub list_times : List ℤ → ℕ → ℕ → ℕ → List ℤ
list_times ts a b c = cond (eqb (list_refusal (length ts) a b c) 0) ts []

abbrev pub listed : Satellite → List ℤ → ℕ → ℕ → ℕ → ListAnswer
listed s ts a b c =
    let us = list_times ts a b c in
    record { refusal = list_refusal (length ts) a b c; strides = record { 0 = strides_from s us }; satellite = satellite_from s us }

-- ── what is written ──

abbrev pub refusals_of : List Row → List ℕ
refusals_of [] = []
refusals_of (r ∷ rs) = r.refusal ∷ refusals_of rs

abbrev pub rounds_of : List Row → List ℕ
rounds_of [] = []
rounds_of (r ∷ rs) = r.rounds ∷ rounds_of rs

abbrev pub state_of : Row → List Float
state_of r = r.x ∷ r.y ∷ r.z ∷ r.vx ∷ r.vy ∷ r.vz ∷ []

abbrev pub states_of : List Row → List Float
states_of [] = []
states_of (r ∷ rs) = state_of r ++ states_of rs

-- xs at the front of a room; what lies past them stays
abbrev pub over : {A : Type 0} → List A → List A → List A
over xs old = xs ++ drop (length xs) old

abbrev pub holding : Model → Place → Satellite
holding k p = record { model = k; place = p }

-- every element of rooms a₀, b₀ and c₀ that are long enough, when the rows of ts are written; n strides were taken, from the position p₀ to p
pub record Done (ts : List ℤ) (a₀ : List ℕ) (b₀ : List Float) (c₀ : List ℕ) (k : Model) (p₀ : Place) (a : List ℕ) (b : List Float) (c : List ℕ) (p : Place) (n : ℕ) : Type 0 where
  pub strides : n ≡ strides_from (holding k p₀) ts
  pub held : holding k p ≡ satellite_from (holding k p₀) ts
  pub refusals : a ≡ over (refusals_of (rows_from (holding k p₀) ts)) a₀
  pub states : b ≡ over (states_of (rows_from (holding k p₀) ts)) b₀
  pub rounds : c ≡ over (rounds_of (rows_from (holding k p₀) ts)) c₀

-- what a list answers, and every element of the rooms a, b and c afterwards
pub record ListPost (s : Satellite) (ts : List ℤ) (a : List ℕ) (b : List Float) (c : List ℕ) (r : ListAnswer) (a' : List ℕ) (b' : List Float) (c' : List ℕ) : Type 0 where
  pub answer : r ≡ listed s ts (length a) (length b) (length c)
  pub refusals : a' ≡ over (refusals_of (rows_from s (list_times ts (length a) (length b) (length c)))) a
  pub states : b' ≡ over (states_of (rows_from s (list_times ts (length a) (length b) (length c)))) b
  pub rounds : c' ≡ over (rounds_of (rows_from s (list_times ts (length a) (length b) (length c)))) c
