use mathlib.Core.Path.{ap, ◌∙◌}
use native.Mathlib.Omega.{arith}
use lib.IntN.{nat_abs}
use mir.Syntax.{w64}
use mir.Val.{SFits}
use mir.ValLaws.{to_z-of_z}
use Rattle.instant.proofs.distance.Tie as tie
use Rattle.instant.proofs.distance.Lts as lts
use Rattle.instant.proofs.distance.Reads as reads
use Rattle.instant.proofs.distance.Goals as goal

fit : (c : (lts.After-struct_told tie.the-claims reads.Pre reads.Post)) → SFits w64 c.args.t.0
fit c = record { sfits = omega arith }

pub returns : goal.returns
returns c = c.magnitude.ensures ∙ ap nat_abs (to_z-of_z w64 _ (fit c.before))
