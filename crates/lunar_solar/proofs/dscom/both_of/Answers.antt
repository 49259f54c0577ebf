use lib.Ieee.{round, units, odd, size, span, climb, of_bits, neg}
use lib.Count.{count_trailing_zeros}
use Rattle.lunar_solar.specs.Dscom.{both_of}
use Rattle.lunar_solar.proofs.dscom.both_of.Goals as goal

pub returns : goal.returns
unfolding both_of round units odd size span climb count_trailing_zeros of_bits neg
returns c =
    let c1 = c in
    simp (c.zmol_of.ensures, c.zmos_of.ensures, c.periodics_of-2.ensures, c1.periodics_of.ensures)
