use Rattle.tle.specs.Legal.{in_layout}
use native.Mathlib.Omega.{arith}
use mir.Syntax.{w64}
use mir.Val.{SFits}
use mir.ValLaws.{to_z-of_z}
use Rattle.tle.proofs.limits.in_layout.Tie as tie
use Rattle.tle.proofs.limits.in_layout.Lts as lts
use Rattle.tle.proofs.limits.in_layout.Reads as reads
use Rattle.tle.proofs.limits.in_layout.Goals as goal

ndot : (c : (lts.After-struct_told tie.the-claims reads.Pre reads.Post)) → SFits w64 c.args.r.ndot
ndot c = record { sfits = omega arith }

pub returns : goal.returns
unfolding in_layout
returns c =
    let k = c.before.before.before.before.before in
    let n = k.before.before in
    rw (k.scaled_fits-2.ensures, k.scaled_fits.ensures, n.magnitude.ensures, n.designator_fits.ensures, to_z-of_z w64 _ (ndot n.before))
