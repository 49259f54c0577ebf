use mathlib.Core.Path.{refl, ◌∙◌}
use Rattle.ephemeris_answers.proofs.rows.add_times.Goals as goal

pub loop-time-preserved : goal.loop-time-preserved
loop-time-preserved c =
    (c.add_time-at.auto.room ∙ c.loop-time.invariant.0, λ h. c.add_time-at.ensures (c.loop-time.invariant.1 h))

pub loop-time-init : goal.loop-time-init
loop-time-init c = (refl, λ h. h)

pub shape_of-room : goal.shape_of-room
shape_of-room c = c.loop-time.invariant.0

pub returns : goal.returns
returns c = c.loop-time.invariant.1
