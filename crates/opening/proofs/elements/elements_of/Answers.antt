use Rattle.opening.specs.Elements.{elements_of}
use Rattle.opening.proofs.elements.elements_of.Goals as goal

pub returns : goal.returns
unfolding elements_of
returns c = simp (c.to_radians-nodeo.ensures, c.decimal-5.ensures, c.xpdotp.ensures, c.decimal-4.ensures, c.to_radians-mo.ensures, c.decimal-3.ensures, c.to_radians-inclo.ensures, c.decimal-2.ensures, c.to_radians-argpo.ensures, c.decimal.ensures, c.decimal-ecco.ensures, c.bstar_of-bstar.ensures)
