use Rattle.tle.specs.Read.{ranges_of}
use Rattle.tle.proofs.Judged.{yes, no}
use Rattle.tle.proofs.reader.judge_ranges.Goals as goal

pub returns-then-not-day_in_range : goal.returns-then-not-day_in_range
unfolding ranges_of
returns-then-not-day_in_range c = simp (no c.day_in_range.ensures c.if-not-day_in_range.true)

pub returns-then-not-inclination_in_range : goal.returns-then-not-inclination_in_range
unfolding ranges_of
returns-then-not-inclination_in_range c =
    simp (
      yes c.day_in_range.ensures c.if-not-day_in_range.false,
      no c.inclination_in_range.ensures c.if-not-inclination_in_range.true,
    )

pub returns-then-not-angle_in_range : goal.returns-then-not-angle_in_range
unfolding ranges_of
returns-then-not-angle_in_range c =
    simp (
      yes c.day_in_range.ensures c.if-not-day_in_range.false,
      yes c.inclination_in_range.ensures c.if-not-inclination_in_range.false,
      no c.angle_in_range.ensures c.if-not-angle_in_range.true,
    )

pub returns-then-not-angle_in_range-2 : goal.returns-then-not-angle_in_range-2
unfolding ranges_of
returns-then-not-angle_in_range-2 c =
    simp (
      yes c.day_in_range.ensures c.if-not-day_in_range.false,
      yes c.inclination_in_range.ensures c.if-not-inclination_in_range.false,
      yes c.angle_in_range.ensures c.if-not-angle_in_range.false,
      no c.angle_in_range-2.ensures c.if-not-angle_in_range-2.true,
    )

pub returns-then-not-angle_in_range-3 : goal.returns-then-not-angle_in_range-3
unfolding ranges_of
returns-then-not-angle_in_range-3 c =
    simp (
      yes c.day_in_range.ensures c.if-not-day_in_range.false,
      yes c.inclination_in_range.ensures c.if-not-inclination_in_range.false,
      yes c.angle_in_range.ensures c.if-not-angle_in_range.false,
      yes c.angle_in_range-2.ensures c.if-not-angle_in_range-2.false,
      no c.angle_in_range-3.ensures c.if-not-angle_in_range-3.true,
    )

pub returns-then-not-motion_in_range : goal.returns-then-not-motion_in_range
unfolding ranges_of
returns-then-not-motion_in_range c =
    simp (
      yes c.day_in_range.ensures c.if-not-day_in_range.false,
      yes c.inclination_in_range.ensures c.if-not-inclination_in_range.false,
      yes c.angle_in_range.ensures c.if-not-angle_in_range.false,
      yes c.angle_in_range-2.ensures c.if-not-angle_in_range-2.false,
      yes c.angle_in_range-3.ensures c.if-not-angle_in_range-3.false,
      no c.motion_in_range.ensures c.if-not-motion_in_range.true,
    )

pub returns : goal.returns
unfolding ranges_of
returns c =
    simp (
      yes c.day_in_range.ensures c.if-not-day_in_range.false,
      yes c.inclination_in_range.ensures c.if-not-inclination_in_range.false,
      yes c.angle_in_range.ensures c.if-not-angle_in_range.false,
      yes c.angle_in_range-2.ensures c.if-not-angle_in_range-2.false,
      yes c.angle_in_range-3.ensures c.if-not-angle_in_range-3.false,
      yes c.motion_in_range.ensures c.if-not-motion_in_range.false,
    )
