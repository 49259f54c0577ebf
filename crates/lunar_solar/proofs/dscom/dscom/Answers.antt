use Rattle.lunar_solar.specs.Dscom.{dscom_from}
use Rattle.lunar_solar.proofs.dscom.dscom.Goals as goal

pub returns : goal.returns
unfolding dscom_from
returns c =
    let moon = c.before in
    let sun = moon.before.before in
    let gam = sun in
    simp (c.both_of-periodics.ensures, moon.pass_of-moon.ensures, moon.moon_of.ensures, sun.pass_of-sun.ensures, sun.sun_of.ensures, gam.gam_of-gam.ensures, gam.day_of-day.ensures, gam.shape_of-shape.ensures)
