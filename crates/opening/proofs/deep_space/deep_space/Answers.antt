use lib.Ieee.{round, units, odd, size, span, climb, of_bits, neg}
use lib.Count.{count_trailing_zeros}
use Rattle.periodics.specs.Dpper.{dpper_of}
use Rattle.opening.specs.DeepSpace.{set_up, unchanged}
use Rattle.opening.specs.Ahead.{deep_space_from}
use Rattle.opening.proofs.deep_space.deep_space.Goals as goal

pub returns : goal.returns
unfolding deep_space_from set_up unchanged dpper_of round units odd size span climb count_trailing_zeros of_bits neg
returns c =
    let d = c.before in
    let r = d in
    simp (d.dsinit-integrator.ensures, d.at_epoch.ensures, d.orbit.ensures, r.secular_rates-rates.ensures, r.dscom-c.ensures)
