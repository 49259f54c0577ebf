-- What is seen through the Greenwich angle, where there is one.
use Prim.Native.Nat.{ℕ}
use mathlib.Core.Path.{◌≡◌, refl, ap, ◌∙◌}
use mathlib.Core.Bool.{Bool, true, false, cond}
use mathlib.Core.List.{List}
use lib.Ieee.{Float}
use Rattle.std.specs.Prelude.{None, Option, Some}
use Rattle.instant.specs.declared.Radians.{Radians}
use Rattle.instant.specs.Calendar.{in_calendar}
use Rattle.instant.specs.Greenwich.{greenwich_of, greenwich_at}
use Rattle.earth_fixed.specs.Frame.{seen_through, seen_of}

unfoldable pub sight : List Float → List Float → Option Radians → Bool
sight station position (Some a) = seen_through station a.0 position
sight station position None = false

by : (station position : List Float) (x : Float) (b : Bool) → sight station position (cond b (Some (record { 0 = x })) None) ≡ cond b (seen_through station x position) false
unfolding sight
by station position x true = refl
by station position x false = refl

pub sighted : (station position : List Float) (t : ℕ) (a : Option Radians) → a ≡ greenwich_at t → sight station position a ≡ seen_of station t position
unfolding greenwich_at seen_of
sighted station position t a e = ap (sight station position) e ∙ by station position (greenwich_of t) (in_calendar t)
