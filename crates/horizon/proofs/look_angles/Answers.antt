use mathlib.Core.Path.{sym, ap, ◌∙◌}
use lib.Ieee.{round, units, odd, size, span, climb, of_bits, neg}
use lib.Count.{count_trailing_zeros}
use Rattle.horizon.specs.Horizon.{look_in, local_through, down, look_of}
use Rattle.horizon.proofs.Through.{through, throughout}
use Rattle.horizon.proofs.look_angles.Goals as goal

pub returns-in-Some : goal.returns-in-Some
unfolding look_of through
returns-in-Some c =
    let g = c in
    c.look_through.ensures ∙ sym (ap (through (λ x. look_in (local_through g.args.site x g.args.p)) down) c.in-Some.is) ∙ throughout (λ x. look_in (local_through g.args.site x g.args.p)) down _ _ g.greenwich-angle.ensures

pub returns-in-None : goal.returns-in-None
unfolding look_of through round units odd size span climb count_trailing_zeros of_bits neg
returns-in-None c =
    let g = c in
    c.straight_down.ensures ∙ sym (ap (through (λ x. look_in (local_through g.args.site x g.args.p)) down) c.in-None.is) ∙ throughout (λ x. look_in (local_through g.args.site x g.args.p)) down _ _ g.greenwich-angle.ensures
