use mathlib.Core.Path.{refl}
use native.Mathlib.Omega.{arith}
use Rattle.report.specs.Report.{span_of}
use Rattle.report.proofs.span_of.Goals as goal

pub returns-then-latest-earliest : goal.returns-then-latest-earliest
unfolding span_of
returns-then-latest-earliest c = omega arith

pub returns : goal.returns
unfolding span_of
returns c = refl
