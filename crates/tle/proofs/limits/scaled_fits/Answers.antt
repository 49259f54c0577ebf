use native.Mathlib.Omega.{arith}
use mir.Syntax.{w64}
use mir.Val.{SFits}
use mir.ValLaws.{to_z-of_z}
use Rattle.tle.specs.Legal.{scaled_fits}
use Rattle.tle.proofs.limits.scaled_fits.Tie as tie
use Rattle.tle.proofs.limits.scaled_fits.Lts as lts
use Rattle.tle.proofs.limits.scaled_fits.Reads as reads
use Rattle.tle.proofs.limits.scaled_fits.Goals as goal

mantissa : (c : (lts.After-struct_told tie.the-claims reads.Pre reads.Post)) → SFits w64 c.args.s.mantissa
mantissa c = record { sfits = omega arith }

exponent : (c : (lts.After-struct_told tie.the-claims reads.Pre reads.Post)) → SFits w64 c.args.s.exponent
exponent c = record { sfits = omega arith }

pub returns : goal.returns
unfolding scaled_fits
returns c =
    let k = c.before.before.before in
    rw (c.magnitude-e.ensures, c.magnitude-m.ensures, to_z-of_z w64 _ (mantissa k), to_z-of_z w64 _ (exponent k))
