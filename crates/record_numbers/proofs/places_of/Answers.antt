use mathlib.Core.Path.{sym, ap}
use Rattle.record_numbers.specs.Numbers.{places_of}
use Rattle.record_numbers.proofs.places_of.Goals as goal

pub returns-in-Blank : goal.returns-in-Blank
unfolding places_of
returns-in-Blank c = sym (ap places_of c.in-Blank.is)

pub returns-in-Piece : goal.returns-in-Piece
unfolding places_of
returns-in-Piece c = sym (ap places_of c.in-Piece.is)
