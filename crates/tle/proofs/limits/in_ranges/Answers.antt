use Rattle.tle.specs.Legal.{in_ranges}
use Rattle.tle.proofs.limits.in_ranges.Goals as goal

-- Each range is what its own test says.
pub returns : goal.returns
unfolding in_ranges
returns c =
    let a = c in
    rw (
      c.motion_in_range.ensures,
      c.angle_in_range-3.ensures,
      c.angle_in_range-2.ensures,
      a.angle_in_range.ensures,
      a.inclination_in_range.ensures,
      a.day_in_range.ensures,
    )
