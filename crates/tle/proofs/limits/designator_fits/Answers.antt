use Rattle.tle.specs.Legal.{designator_fits}
use Rattle.tle.proofs.limits.designator_fits.Goals as goal

pub returns-in-Blank : goal.returns-in-Blank
unfolding designator_fits
returns-in-Blank c = cc

pub returns-in-Piece : goal.returns-in-Piece
unfolding designator_fits
returns-in-Piece c = rw (c.piece_fits.ensures, c.in-Piece.is)
