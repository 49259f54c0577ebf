use lib.Ieee.{round, units, odd, size, span, climb, of_bits, neg}
use lib.Count.{count_trailing_zeros}
use Rattle.sgp4.specs.DeepSpace.{deep_space}
use Rattle.sgp4.proofs.deep_space.deep_space.Goals as goal

pub returns : goal.returns
unfolding deep_space round units odd size span climb count_trailing_zeros of_bits neg
returns c =
    let dspace = c.before.before in
    let secular = dspace in
    simp (
      c.moved.ensures,
      c.updated.ensures,
      dspace.dspace-e.ensures,
      dspace.handed.ensures,
      secular.secular-g.ensures,
    )
