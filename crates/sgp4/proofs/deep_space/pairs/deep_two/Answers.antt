use Rattle.sgp4.specs.Two.{deep_two}
use Rattle.sgp4.proofs.deep_space.pairs.deep_two.Goals as goal

pub returns : goal.returns
unfolding deep_two
returns c =
    simp (
      c.moved_two.ensures,
      c.updated-u2.ensures,
      c.updated-u.ensures,
      c.dspace_by-e2.ensures,
      c.handed-2.ensures,
      c.dspace_by-e.ensures,
      c.handed.ensures,
      c.secular-g2.ensures,
      c.secular-g.ensures,
    )
