use mathlib.Core.Path.{sym, ◌∙◌}
use native.Mathlib.Omega.{arith}
use mir.Syntax.{w64}
use mir.Val.{SFits}
use Rattle.instant.proofs.Signed.{negative}
use Rattle.resonance.proofs.Sides.{side_back, side_forward}
use Rattle.resonance.proofs.time.side_of.Lts as lts
use Rattle.resonance.proofs.time.side_of.Reads as reads
use Rattle.resonance.proofs.time.side_of.Goals as goal

fit : (c : (lts.After-struct_told reads.Pre reads.Post)) → SFits w64 c.args.t.0
fit c = record { sfits = omega arith }

pub returns-then-x-lt0 : goal.returns-then-x-lt0
returns-then-x-lt0 c = side_back c.args.t.0 (sym (negative _ (fit c.before)) ∙ c.if-x-lt0.true)

pub returns-else-x-lt0 : goal.returns-else-x-lt0
returns-else-x-lt0 c = side_forward c.args.t.0 (sym (negative _ (fit c.before)) ∙ c.if-x-lt0.false)
