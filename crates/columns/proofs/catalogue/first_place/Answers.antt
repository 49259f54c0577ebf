use native.Mathlib.Omega.{arith}
use mathlib.Core.Path.{◌∙◌}
use Rattle.columns.proofs.FirstPlaces.{below_A, at_I, J-to-N, at_O, P-to-Z, above_Z}
use Rattle.columns.proofs.catalogue.first_place.Goals as goal

-- Each range of bytes stands for what it does in the table of first places.
pub returns-then-b-lt65 : goal.returns-then-b-lt65
returns-then-b-lt65 c = (c.digit.ensures.0 ∙ below_A c.args.b (omega arith) c.if-b-lt65.true, omega arith)

pub returns-then-b-eq73 : goal.returns-then-b-eq73
returns-then-b-eq73 c = (at_I c.args.b (omega arith) c.if-b-eq73.true, omega arith)

pub returns-then-b-lt79 : goal.returns-then-b-lt79
returns-then-b-lt79 c = (J-to-N c.args.b (omega arith) (omega arith) (omega arith), omega arith)

pub returns-then-b-eq79 : goal.returns-then-b-eq79
returns-then-b-eq79 c = (at_O c.args.b (omega arith) c.if-b-eq79.true, omega arith)

pub returns-then-b-le90 : goal.returns-then-b-le90
returns-then-b-le90 c = (P-to-Z c.args.b (omega arith) (omega arith) (omega arith), omega arith)

pub returns : goal.returns
returns c = (above_Z c.args.b (omega arith) (omega arith), omega arith)
