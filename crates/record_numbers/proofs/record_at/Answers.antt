use mathlib.Core.Path.{ap, ◌∙◌}
use mir.Syntax.{w64}
use mir.ValLaws.{to_z-of_z}
use Rattle.tle.specs.Read.{class_of}
use Rattle.record_numbers.specs.Numbers.{at, record_at}
use Rattle.record_numbers.proofs.record_at.Goals as goal

pub returns : goal.returns
unfolding record_at
returns c =
    let ndot = c.before.before.before.before.before.before.before.before.before in
    let ns = c.args.fields.now in
    λ i. record {
      number = c.whole_at.ensures i;
      class = (c.of_letter-class.ensures ∙ ap class_of c.byte_at.ensures) i;
      designator = c.designator_at-designator.ensures i;
      year = c.whole_at-2.ensures i;
      day = c.whole_at-3.ensures i;
      ndot = to_z-of_z w64 (at ns 8) (record { sfits = c.result-1.given }) i;
      nddot = c.scaled_at-nddot.ensures i;
      bstar = c.scaled_at-bstar.ensures i;
      ephemeris = c.whole_at-4.ensures i;
      element = c.whole_at-5.ensures i;
      inclination = c.whole_at-6.ensures i;
      node = c.whole_at-7.ensures i;
      eccentricity = c.whole_at-8.ensures i;
      perigee = c.whole_at-9.ensures i;
      anomaly = c.whole_at-10.ensures i;
      motion = c.whole_at-11.ensures i;
      revolution = c.whole_at-12.ensures i;
    }
