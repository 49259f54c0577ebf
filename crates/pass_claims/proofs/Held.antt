-- A satellite newly opened shows the same whatever it was asked before.
use Prim.Native.Nat.{ℕ}
use mathlib.Core.Path.{◌≡◌, refl, ap, ◌∙◌}
use Rattle.std.specs.Prelude.{None, Option, Some}
use Rattle.instant.specs.declared.Microseconds.{Microseconds}
use Rattle.instant.specs.Since.{since_of}
use Rattle.satellite.specs.declared.Model.{Model}
use Rattle.geodetic.specs.declared.Site.{Site}
use Rattle.opening.specs.declared.opening.Satellite.{Satellite}
use Rattle.sightings.specs.Sightings.{row_sine, seen_after, seen_since, seen_at}
use Rattle.sequences.specs.Demand3.{Last, none, last_of}
use Rattle.sequences.proofs.Demand3.{satellite_at, row_step, satellite_step}

pub record Held (k : Model) (s : Satellite) : Type 0 where
  pub last : Last
  pub at : s ≡ satellite_at k last

sine_since : (site : Site) (k : Model) (l : Last) (t : ℕ) (d : Option Microseconds) → (seen_since site (satellite_at k l) t d).sine ≡ (seen_since site (satellite_at k none) t d).sine
unfolding seen_since seen_after
sine_since site k l t (Some d) = ap (row_sine site t) (row_step k l d.0)
sine_since site k l t None = refl

pub same_sine : (site : Site) (k : Model) (s : Satellite) (t : ℕ) → Held k s → (seen_at site s t).sine ≡ (seen_at site (satellite_at k none) t).sine
unfolding seen_at
same_sine site k s t h = ap (λ (z : Satellite). (seen_at site z t).sine) h.at ∙ sine_since site k h.last t (since_of t k.epoch.0)

held_since : (site : Site) (k : Model) (l : Last) (t : ℕ) (d : Option Microseconds) → Held k (seen_since site (satellite_at k l) t d).satellite
unfolding seen_since seen_after
held_since site k l t (Some d) = record { last = last_of l d.0; at = satellite_step k l d.0 }
held_since site k l t None = record { last = l; at = refl }

again : (site : Site) (k : Model) (l : Last) (t : ℕ) → Held k (seen_at site (satellite_at k l) t).satellite
unfolding seen_at
again site k l t = held_since site k l t (since_of t k.epoch.0)

pub still_held : (site : Site) (k : Model) (s : Satellite) (t : ℕ) → Held k s → Held k (seen_at site s t).satellite
still_held site k s t h =
    let g = again site k h.last t in
    record { last = g.last; at = ap (λ (z : Satellite). (seen_at site z t).satellite) h.at ∙ g.at }
