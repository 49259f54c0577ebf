use lib.Ieee.{round, units, odd, size, span, climb, of_bits, neg}
use lib.Count.{count_trailing_zeros}
use Rattle.lunar_solar.specs.Dscom.{lunar_of}
use Rattle.lunar_solar.proofs.dscom.lunar_of.Goals as goal

pub returns : goal.returns
unfolding lunar_of round units odd size span climb count_trailing_zeros of_bits neg
returns c =
    let c1 = c.before.before in
    let c2 = c1.before.before in
    let c3 = c2 in
    simp (c.sin_cos-gl.ensures.sin_value.0, c.sin_cos-gl.ensures.sin_value.1, c.atan2-zx.ensures, c.sqrt-zcoshl.ensures, c1.sqrt-zsinil.ensures, c1.sin_cos-tem.ensures.sin_value.0, c1.sin_cos-tem.ensures.sin_value.1, c2.rem_turn-xnodce.ensures, c3.gam_of-gam.ensures, c3.day_of-day.ensures)
