-- A satellite near the Earth in less memory: the first 36 of a satellite's numbers, and its marks. A deep-space satellite is known by its kind, the mark 3,
-- and is not held by so little. Definitions only.
use Rattle.std.specs.Prelude.{ℕ, Bool, cond, not, ◌||◌, List, ◌++◌, eqb, ltb, length, take, drop, get_or, Float, Err, Ok, Result}
use Rattle.instant.specs.declared.Instant.{Instant}
use Rattle.satellite.specs.declared.NearEarth.{NearEarth}
use Rattle.satellite.specs.declared.Method.TheVariants as method
use Rattle.opening.specs.declared.opening.Satellite.{Satellite}
use Rattle.opening.specs.Opening.{newly}
use Rattle.storage.specs.declared.NearRefusal.{NearRefusal}
use Rattle.storage.specs.declared.NearRefusal.TheVariants as unloaded
use Rattle.storage.specs.Storage.{near_earth_at, numbers_of, marks_of}

-- a satellite near the Earth as it is newly opened
abbrev pub near_satellite : NearEarth → Instant → Satellite
near_satellite n t = newly (record { near = n; method = method.NearEarth; epoch = t })

unfoldable pub near_short : ℕ → ℕ → Bool
near_short n m = ltb n 36 || ltb m 6

-- the kind 0 is near Earth
abbrev pub near_kind : List ℕ → Bool
near_kind ms = eqb (get_or ms 3 0) 0

unfoldable pub near_loading_of : List Float → List ℕ → Result NearEarth NearRefusal
near_loading_of ns ms =
    cond (near_short (length ns) (length ms)) (Err unloaded.RoomTooShort) (cond (near_kind ms) (Ok (near_earth_at ns (not (eqb (get_or ms 2 0) 0)))) (Err unloaded.DeepSpace))

-- document 01's refusal 17, or 0
unfoldable pub near_refusal : ℕ → ℕ → ℕ
near_refusal n m = cond (near_short n m) 17 0

-- what storing a satellite near the Earth leaves: its first 36 numbers and its marks; what lies past them stays
unfoldable pub near_stored_numbers : Satellite → List Float → List ℕ → List Float
near_stored_numbers s ns ms = cond (near_short (length ns) (length ms)) ns (take 36 (numbers_of s) ++ drop 36 ns)

unfoldable pub near_stored_marks : Satellite → List Float → List ℕ → List ℕ
near_stored_marks s ns ms = cond (near_short (length ns) (length ms)) ms (marks_of s ++ drop 6 ms)
