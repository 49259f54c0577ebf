use Rattle.lent_passes.proofs.geodetic_of.Goals as goal

pub returns : goal.returns
returns c = simp (c.element-height.ensures, c.element-longitude.ensures, c.element-latitude.ensures)
