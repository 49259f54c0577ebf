use lib.Ieee.{round, units, odd, size, span, climb, of_bits, neg}
use lib.Count.{count_trailing_zeros}
use Rattle.lunar_solar.specs.Dsinit.{secular_of}
use Rattle.lunar_solar.proofs.dsinit.secular_rates.Goals as goal

pub returns : goal.returns
unfolding secular_of round units odd size span climb count_trailing_zeros of_bits neg
returns c =
    let c1 = c in
    simp (c.joined.ensures, c.guarded-shll.ensures, c.guarded-shs.ensures, c1.rates_of-m.ensures, c1.rates_of-s.ensures)
