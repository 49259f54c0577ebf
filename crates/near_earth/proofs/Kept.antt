-- What set-up keeps so that a row need not compute it again is what 002's sgp4 computes there: the same expression, so the same bits.
use mathlib.Core.Path.{refl}
use mathlib.Core.Bool.{Bool, true, false, cond}
use Rattle.satellite.specs.declared.Elements.{Elements}
use Rattle.near_earth.specs.Initl.{initl, guard}
use Rattle.near_earth.specs.Kept.{kept, AsComputed}
use Rattle.near_earth.specs.Sgp4init.{recovered, filled, zeroed, near_earth}

either : (b : Bool) (el : Elements) (deep : Bool)
    → AsComputed (cond b (filled el (initl el.ecco el.inclo el.no) deep) (zeroed el (initl el.ecco el.inclo el.no)))
unfolding initl recovered kept filled zeroed
either true el deep = record { axis = refl; sine = refl; cosine = refl }
either false el deep = record { axis = refl; sine = refl; cosine = refl }

pub kept_as_computed : (el : Elements) (deep : Bool) → AsComputed (near_earth el (initl el.ecco el.inclo el.no) deep)
unfolding near_earth
kept_as_computed el deep = either (guard (initl el.ecco el.inclo el.no)) el deep
