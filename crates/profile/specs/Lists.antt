-- A list of times in the profile: a row for each, and what the full program makes of the satellite by the times that the profile takes. Definitions only.
use Rattle.std.specs.Prelude.{Bool, true, false, ◌||◌, List, [], ◌∷◌, map, ℤ}
use Rattle.sgp4.specs.declared.Row.{Row}
use Rattle.opening.specs.declared.opening.Satellite.{Satellite}
use Rattle.requests.specs.Lists.{satellite_from}
use Rattle.profile.specs.Request.{taken, answered}

-- each time's row; which of the times went before changes none (`rows_alone_lem` of proofs/Same)
abbrev pub rows_of : Satellite → List ℤ → List Row
rows_of s ts = map (λ t. (answered s t).row) ts

-- the times that the profile takes
abbrev pub keep_if : Bool → ℤ → List ℤ → List ℤ
keep_if true t ts = t ∷ ts
keep_if false t ts = ts

abbrev pub taken_of : List ℤ → List ℤ
taken_of [] = []
taken_of (t ∷ ts) = keep_if (taken t) t (taken_of ts)

abbrev pub any_taken : List ℤ → Bool
any_taken [] = false
any_taken (t ∷ ts) = taken t || any_taken ts

-- a time that is not taken leaves the satellite
abbrev pub satellite_after : Satellite → List ℤ → Satellite
satellite_after s ts = satellite_from s (taken_of ts)
