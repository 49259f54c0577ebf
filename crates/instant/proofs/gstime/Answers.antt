use mathlib.Core.Path.{sym, ap, ◌∙◌}
use lib.Ieee.{Float, round, units, odd, size, span, climb, of_bits}
use lib.Count.{count_trailing_zeros}
use Rattle.elementary.specs.Notation.{◌⊗◌, ◌⊘◌, dec}
use Rattle.elementary.specs.Trig.{turned}
use Rattle.instant.specs.Quantity.{deg2rad}
use Rattle.instant.specs.Greenwich.{quadrant, gstime_of}
use Rattle.instant.proofs.Constants.{deg2rad_is}
use Rattle.instant.proofs.gstime.Goals as goal

pub returns : goal.returns
unfolding gstime_of round units odd size span climb count_trailing_zeros of_bits
returns c =
    let s = c.sidereal_seconds-temp.result in
    c.into_turn.ensures
    ∙ ap quadrant
    (c.rem_turn.ensures
    ∙ ap (λ (r : Float). turned (s ⊗ r ⊘ dec 240 0)) (sym deg2rad_is)
    ∙ ap (λ (x : Float). turned (x ⊗ deg2rad ⊘ dec 240 0)) c.sidereal_seconds-temp.ensures)
