use mathlib.Core.Path.{sym, ◌∙◌}
use borrow.Author.Tests.{le-leb, lt-leb}
use Rattle.award_text.specs.Text.{placed}
use Rattle.award_text.proofs.place.Goals as goal

pub returns-then-n-room : goal.returns-then-n-room
unfolding placed
returns-then-n-room c = simp (sym c.in_place.ensures ∙ c.if-in_place.true, le-leb _ _ c.if-n-room.true) c.advance.ensures

pub returns-then-in_place : goal.returns-then-in_place
unfolding placed
returns-then-in_place c = simp (sym c.in_place.ensures ∙ c.if-in_place.true, lt-leb _ _ c.if-n-room.false) c.left_out.ensures

pub returns : goal.returns
unfolding placed
returns c = simp (sym c.in_place.ensures ∙ c.if-in_place.false) c.bad.ensures
