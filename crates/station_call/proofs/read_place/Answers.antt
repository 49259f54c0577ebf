use Prim.Native.Nat.{◌-◌}
use mathlib.Core.Path.{refl, ap, ◌∙◌}
use native.Mathlib.Omega.{arith}
use lib.ListN.{length}
use Rattle.floats.proofs.Branch.{yes_by, no_by}
use Rattle.station_text.proofs.Words.{tail}
use Rattle.station_call.specs.Call.{geodetic_of, place_of}
use Rattle.station_call.proofs.read_place.Goals as goal

pub slice_bounds-read_geodetic-count : goal.slice_bounds-read_geodetic-count
slice_bounds-read_geodetic-count c = omega (arith, c.begins.ensures.1 c.if-begins.true)

pub slice_bounds-read_geodetic-start : goal.slice_bounds-read_geodetic-start
slice_bounds-read_geodetic-start c = omega (arith, c.begins.ensures.1 c.if-begins.true)

pub returns-then-begins : goal.returns-then-begins
unfolding place_of
returns-then-begins c =
    let s = c.args.line.now in
    c.read_geodetic.ensures ∙ ap geodetic_of (tail s 9 (length s - 9) refl) ∙ yes_by _ _ c.begins.ensures.0 c.if-begins.true

pub returns : goal.returns
unfolding place_of
returns c = c.read_fixed.ensures ∙ no_by _ _ c.begins.ensures.0 c.if-begins.false
