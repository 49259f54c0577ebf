use native.Mathlib.Omega.{arith}
use mir.Syntax.{w64}
use mir.Val.{SFits}
use mir.ValLaws.{to_z-of_z}
use Rattle.opening.specs.Elements.{bstar_of}
use Rattle.opening.proofs.elements.bstar_of.Tie as tie
use Rattle.opening.proofs.elements.bstar_of.Lts as lts
use Rattle.opening.proofs.elements.bstar_of.Reads as reads
use Rattle.opening.proofs.elements.bstar_of.Goals as goal

mantissa : (c : (lts.After-struct_told tie.the-claims reads.Pre reads.Post)) → SFits w64 c.args.b.mantissa
mantissa c = record { sfits = omega arith }

exponent : (c : (lts.After-struct_told tie.the-claims reads.Pre reads.Post)) → SFits w64 c.args.b.exponent
exponent c = record { sfits = omega arith }

pub returns : goal.returns
unfolding bstar_of
returns c =
    let k = c.before.before in
    rw (c.scaled.ensures, to_z-of_z w64 _ (mantissa k), to_z-of_z w64 _ (exponent k))
