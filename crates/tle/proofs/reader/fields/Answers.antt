use Rattle.tle.specs.Read.{fields_of}
use Rattle.tle.proofs.WithSign.{ndot_held}
use Rattle.tle.proofs.reader.fields.Goals as goal

pub returns : goal.returns
unfolding fields_of
returns c =
    λ j. record {
      number = c.number_at.ensures j;
      class = c.of_letter.ensures j;
      designator = c.designator_at.ensures j;
      year = c.year_at.ensures j;
      day = c.day_at.ensures j;
      ndot = ndot_held _ c.ndot_at.ensures j;
      nddot = c.scaled_at.ensures j;
      bstar = c.scaled_at-2.ensures j;
      ephemeris = c.field_at.ensures.0 j;
      element = c.field_at-2.ensures.0 j;
      inclination = c.degrees_at.ensures j;
      node = c.degrees_at-2.ensures j;
      eccentricity = c.field_at-3.ensures.0 j;
      perigee = c.degrees_at-3.ensures j;
      anomaly = c.degrees_at-4.ensures j;
      motion = c.motion_at.ensures j;
      revolution = c.field_at-4.ensures.0 j;
    }
