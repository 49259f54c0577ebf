use mathlib.Core.Path.{ap, sym}
use Rattle.listing.specs.Listing.{designator_text}
use Rattle.text.proofs.Pieces.{both, same}
use Rattle.listing.proofs.put_designator.Goals as goal

pub returns-in-Blank : goal.returns-in-Blank
unfolding designator_text
returns-in-Blank c = same (sym (ap designator_text c.in-Blank.is)) c.put_byte.ensures

pub returns-in-Piece : goal.returns-in-Piece
unfolding designator_text
returns-in-Piece c = same (sym (ap designator_text c.in-Piece.is)) (both c.put_five_digits-p.ensures c.put_piece.ensures)
