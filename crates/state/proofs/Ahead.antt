-- What is begun before Kepler's equation comes to the same.
use mathlib.Core.Path.{◌≡◌, refl}
use lib.Ieee.{Float}
use Rattle.elementary.specs.Power.{pow15}
use Rattle.satellite.specs.declared.Terms.{Terms}
use Rattle.state.specs.declared.parts.Perturbed.{Perturbed}
use Rattle.state.specs.declared.parts.Long.{Long}
use Rattle.state.specs.declared.parts.Anomaly.{Anomaly}
use Rattle.state.specs.Secular.{motion}
use Rattle.state.specs.Periodics.{latus, plane}
use Rattle.state.specs.Sgp4.{shortened}
use Rattle.state.specs.Ahead.{ahead_of, in_plane, plane_of, plane_from, shortened_from}

pub shortened_ahead : (p : Perturbed) (am : Float) (k : Terms) (q : Long) (e : Anomaly)
    → shortened_from p am k q e (latus q am) (ahead_of am (latus q am)) ≡ shortened p am k q e
unfolding shortened_from shortened ahead_of plane_from in_plane plane_of plane motion pow15
shortened_ahead p am k q e = refl
