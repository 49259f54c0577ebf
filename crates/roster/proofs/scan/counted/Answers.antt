use native.Mathlib.Omega.{arith}
use Rattle.roster.specs.Scan.{tallied}
use Rattle.roster.proofs.Pairs.{number_fits}
use Rattle.roster.proofs.scan.counted.Goals as goal

pub overflow_add-result-2 : goal.overflow_add-result-2
overflow_add-result-2 c = record { fits = omega (arith, number_fits c.args.r c.requires.2) }

pub returns : goal.returns
unfolding tallied
returns c = rw (c.below_after-below.ensures, c.present_after-present.ensures)
