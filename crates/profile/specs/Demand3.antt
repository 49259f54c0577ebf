-- Demand 3 as it reads for the profile: "Its strides are always 0, and demand 3 reads so for it". One claim about a whole sequence of requests. Definitions only.
-- The theorem is `demand_3` of proofs/Demand3.
use Rattle.std.specs.Prelude.{ℕ, ◌≡◌, cond, List, [], ◌∷◌, map, eqb, length, ℤ}
use Rattle.sgp4.specs.declared.Row.{Row}
use Rattle.opening.specs.declared.opening.Satellite.{Satellite}
use Rattle.requests.specs.Lists.{list_refusal}
use Rattle.profile.specs.Request.{beyond, answered}
use Rattle.profile.specs.Lists.{rows_of, satellite_after}

-- a single time, or a list with the lengths of the rooms that are lent
pub data Request : Type 0 where
  One : ℤ → Request
  Many : List ℤ → ℕ → ℕ → ℕ → Request

-- a list's refusal: 32 first of all, then 18 and 17 before any row
abbrev pub list_number : Satellite → ℕ → ℕ → ℕ → ℕ → ℕ
list_number s n a b c = cond (beyond s) 32 (list_refusal n a b c)

-- the times of a request's rows: none of a list that is refused
abbrev pub row_times : Satellite → Request → List ℤ
row_times s (One t) = t ∷ []
row_times s (Many ts a b c) = cond (eqb (list_number s (length ts) a b c) 0) ts []

pub record Outcome : Type 0 where
  pub rows : List Row
  pub strides : ℕ
  pub satellite : Satellite

-- what a request gives
abbrev pub outcome : Satellite → Request → Outcome
outcome s (One t) = let r = answered s t in record { rows = r.row ∷ []; strides = r.strides.0; satellite = r.satellite }
outcome s (Many ts a b c) =
    let us = row_times s (Many ts a b c) in
    record { rows = rows_of s us; strides = 0; satellite = satellite_after s us }

-- each request gets what the last gave back, refused or not
abbrev pub run : Satellite → List Request → List Outcome
run s [] = []
run s (r ∷ rs) = outcome s r ∷ run (outcome s r).satellite rs

--   rows      every request's rows are those of s asked only those times
--   counts    every request reports no strides
pub record Demand3 (s : Satellite) (rs : List Request) : Type 0 where
  pub rows : map (λ o. o.rows) (run s rs) ≡ map (λ r. map (λ t. (answered s t).row) (row_times s r)) rs
  pub counts : map (λ o. o.strides) (run s rs) ≡ map (λ r. 0) rs
