-- "On everything the profile takes, its answers have the same bits as the full program." Claims: proved in proofs/Same, proofs/Near and proofs/Demand3.
use Rattle.std.specs.Prelude.{◌≡◌, refl, true, false, List, [], ◌∷◌, ℤ, pos, negsuc, Ok}
use Rattle.instant.specs.declared.Instant.{Instant}
use Rattle.tle.specs.declared.Record.{Record}
use Rattle.satellite.specs.declared.NearEarth.{NearEarth}
use Rattle.satellite.specs.declared.Method.TheVariants as methods
use Rattle.resonance.specs.declared.place.Place.{Place}
use Rattle.opening.specs.declared.opening.Satellite.{Satellite}
use Rattle.opening.specs.Elements.{elements_of}
use Rattle.opening.specs.Opening as O
use Rattle.requests.specs.Request as F
use Rattle.requests.specs.Lists.{rows_from, strides_from, satellite_from}
use Rattle.storage.specs.Near.{near_satellite}
use Rattle.profile.specs.Opening.{is_deep, open_of}
use Rattle.profile.specs.Request.{beyond, taken, answered}
use Rattle.profile.specs.Lists.{rows_of, satellite_after}
use Rattle.profile.specs.Rows.{near_row}
use Rattle.profile.specs.Demand3.{Request, Demand3}

-- ── opening ──

-- what the profile opens, the full program opens to the same satellite
abbrev pub SameOpening : Type 0
SameOpening = (r : Record) (n : NearEarth) (t : Instant) → open_of r ≡ Ok (n, t) → O.open_of r ≡ Ok (near_satellite n t)

-- what the full program opens, the profile opens unless it is deep space; and of those satellites exactly these are beyond it
pub record OpensOthers (r : Record) (s : Satellite) : Type 0 where
  pub opens : is_deep (elements_of r) ≡ false → open_of r ≡ Ok (s.model.near, s.model.epoch)
  pub deep : beyond s ≡ is_deep (elements_of r)

abbrev pub OpensTheRest : Type 0
OpensTheRest = (r : Record) (s : Satellite) → O.open_of r ≡ Ok s → OpensOthers r s

-- ── requests, of every satellite handed in ──

-- row, strides and satellite
abbrev pub SameAnswer : Type 0
SameAnswer = (s : Satellite) (t : ℤ) → beyond s ≡ false → taken t ≡ true → answered s t ≡ F.answered s t

abbrev pub NoStrides : Type 0
NoStrides = (s : Satellite) (t : ℤ) → (answered s t).strides.0 ≡ 0

abbrev pub AllTaken : List ℤ → Type 0
AllTaken [] = Unit {0}
AllTaken (t ∷ ts) = (taken t ≡ true) × AllTaken ts

pub record SameList (s : Satellite) (ts : List ℤ) : Type 0 where
  pub rows : rows_of s ts ≡ rows_from s ts
  pub strides : strides_from s ts ≡ 0
  pub satellite : satellite_after s ts ≡ satellite_from s ts

abbrev pub SameLists : Type 0
SameLists = (s : Satellite) (ts : List ℤ) → beyond s ≡ false → AllTaken ts → SameList s ts

-- the row that the code makes of a near-Earth satellite's numbers is that of the satellite, whatever its epoch and its saved position
abbrev pub NearRow : Type 0
NearRow = (n : NearEarth) (e : Instant) (p : Place) (t : ℤ) → near_row n t ≡ (answered (record { model = record { near = n; method = methods.NearEarth; epoch = e }; place = p }) t).row

-- demand 3, of every satellite handed in and every sequence of requests
abbrev pub AnySequence : Type 0
AnySequence = (s : Satellite) (rs : List Request) → Demand3 s rs

-- ── the edges of the range ──

pub at_epoch_lem : taken (pos 0) ≡ true
unfolding taken
at_epoch_lem = refl

pub at_30_days : taken (pos 2592000000000) ≡ true
unfolding taken
at_30_days = refl

pub one_more : taken (pos 2592000000001) ≡ false
unfolding taken
one_more = refl

pub one_less : taken (negsuc 0) ≡ false
unfolding taken
one_less = refl
