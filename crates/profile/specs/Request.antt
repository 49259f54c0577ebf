-- A time put to any satellite handed in: the full program's answer (`answered` of crate requests), but 32 "first of all in a request handed a deep-space
-- or resonant satellite, which stays unchanged", and 33 "negative time or beyond 30 days, in place of 9". Definitions only.
use Rattle.std.specs.Prelude.{ℕ, Bool, true, false, cond, ◌||◌, leb, eqb, ℤ, pos, negsuc}
use Rattle.satellite.specs.declared.Method.{Method}
use Rattle.satellite.specs.declared.Method.TheVariants as methods
use Rattle.resonance.specs.declared.place.Place.{Place}
use Rattle.resonance.specs.declared.place.Side.TheVariants.{Forward}
use Rattle.resonance.specs.Place.{number, facing, pick, epoch_of}
use Rattle.resonance.specs.Time.{resonant}
use Rattle.sgp4.specs.Sgp4.{no_integrator, integrator_by}
use Rattle.sgp4.specs.Row.{refused_row}
use Rattle.opening.specs.declared.opening.Satellite.{Satellite}
use Rattle.requests.specs.declared.Answered.{Answered}
use Rattle.requests.specs.Request as F

abbrev pub is_deep_space : Method → Bool
is_deep_space methods.NearEarth = false
is_deep_space (methods.DeepSpace d) = true

-- deep space, or resonant
unfoldable pub beyond_by : Method → Bool
beyond_by m = is_deep_space m || resonant (integrator_by m).resonance

abbrev pub beyond : Satellite → Bool
beyond s = beyond_by s.model.method

-- from 0 to 30 days, in microseconds
unfoldable pub taken : ℤ → Bool
taken (pos n) = leb n 2592000000000
taken (negsuc n) = false

-- a refusal that leaves the satellite as it is
abbrev pub refused : ℕ → Satellite → Answered
refused n s = record { row = refused_row n; strides = record { 0 = 0 }; satellite = s }

-- a single request
unfoldable pub answered : Satellite → ℤ → Answered
answered s t = cond (beyond s) (refused 32 s) (cond (taken t) (F.answered s t) (refused 33 s))

-- the position that the full program leaves of p after a time in range where there is no resonance: `settles` of proofs/Near
unfoldable pub settled : Place → Place
settled p = pick (eqb (number p) 0) (facing Forward p) (epoch_of no_integrator)
