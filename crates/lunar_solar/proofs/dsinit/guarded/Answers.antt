use lib.Ieee.{round, units, odd, size, span, climb, of_bits, neg}
use lib.Count.{count_trailing_zeros}
use Rattle.elementary.proofs.Branch.{yes, no}
use Rattle.lunar_solar.specs.Dsinit.{guarded_of}
use Rattle.lunar_solar.proofs.dsinit.guarded.Goals as goal

pub returns-then-inclm : goal.returns-then-inclm
unfolding guarded_of round units odd size span climb count_trailing_zeros of_bits neg
returns-then-inclm c = yes _ _ _ c.if-inclm.true

pub returns : goal.returns
unfolding guarded_of round units odd size span climb count_trailing_zeros of_bits neg
returns c = no _ _ _ c.if-inclm.false
