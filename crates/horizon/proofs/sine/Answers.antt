use mathlib.Core.Path.{sym, ap, ◌∙◌}
use lib.Ieee.{round, units, odd, size, span, climb, of_bits, neg}
use lib.Count.{count_trailing_zeros}
use Rattle.horizon.specs.Horizon.{sine_in, local_through, nadir, sine_of}
use Rattle.horizon.proofs.Through.{through, throughout}
use Rattle.horizon.proofs.sine.Goals as goal

pub returns-in-Some : goal.returns-in-Some
unfolding sine_of through
returns-in-Some c =
    let g = c in
    c.sine_through.ensures ∙ sym (ap (through (λ x. sine_in (local_through g.args.site x g.args.p)) nadir) c.in-Some.is) ∙ throughout (λ x. sine_in (local_through g.args.site x g.args.p)) nadir _ _ g.greenwich-angle.ensures

pub returns-in-None : goal.returns-in-None
unfolding sine_of through round units odd size span climb count_trailing_zeros of_bits neg
returns-in-None c =
    let g = c in
    sym (ap (through (λ x. sine_in (local_through g.args.site x g.args.p)) nadir) c.in-None.is) ∙ throughout (λ x. sine_in (local_through g.args.site x g.args.p)) nadir _ _ g.greenwich-angle.ensures
