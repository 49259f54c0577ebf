-- From a time to the strides that it needs: document 01, "Steps of the model" and refusal 9. Definitions only.
use Rattle.std.specs.Prelude.{ℕ, ◌/◌, Bool, true, false, cond, leb, ℤ, pos, negsuc, nat_abs}
use Rattle.satellite.specs.declared.Resonance.{Resonance}
use Rattle.satellite.specs.declared.Resonance.TheVariants as kinds
use Rattle.satellite.specs.declared.Integrator.{Integrator}
use Rattle.resonance.specs.declared.place.Side.{Side}
use Rattle.resonance.specs.declared.place.Side.TheVariants.{Forward, Back}

-- the side of a signed count of microseconds since the epoch
abbrev pub side_of : ℤ → Side
side_of (pos n) = Forward
side_of (negsuc n) = Back

-- at most 3,652 days from the epoch
unfoldable pub in_range : ℤ → Bool
in_range t = leb (nat_abs t) 315532800000000

-- any kind but none
abbrev pub resonant : Resonance → Bool
resonant kinds.None = false
resonant (kinds.OneDay d) = true
resonant (kinds.HalfDay h) = true

-- "m strides, the whole number of 43,200,000,000 microseconds in the distance"; "without resonance m counts as 0"
unfoldable pub whole_strides : Integrator → ℕ → ℕ
whole_strides i x = cond (resonant i.resonance) (x / 43200000000) 0

abbrev pub stride_need : Integrator → ℤ → ℕ
stride_need i t = whole_strides i (nat_abs t)
