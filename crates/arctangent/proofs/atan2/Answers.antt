use mathlib.Core.Path.{sym}
use lib.Ieee.{div}
use borrow.Author.Rules.{rules}
use Rattle.floats.proofs.Literals.{literal}
use Rattle.arctangent.specs.Angle.{atan2_of}
use Rattle.arctangent.proofs.atan2.Goals as goal

pub returns-then-not-is_finite : goal.returns-then-not-is_finite
unfolding atan2_of div literal
returns-then-not-is_finite c =
    simp (sym c.before.is_finite-2.ensures, sym c.before.before.is_finite.ensures, c.if-not-is_finite.true)

pub returns-then-y-x : goal.returns-then-y-x
unfolding atan2_of div literal
returns-then-y-x c =
    simp (sym c.before.before.is_finite-2.ensures, sym c.before.before.before.is_finite.ensures, c.before.if-not-is_finite.false, c.if-y-x.true)

pub returns : goal.returns
unfolding atan2_of div literal
returns c =
    let q = c.before.before.before.before in
    simp (sym q.before.before.is_finite-2.ensures, sym q.before.before.before.is_finite.ensures, q.before.if-not-is_finite.false, q.if-y-x.false, c.place.ensures, c.before.first_quarter.ensures, c.before.before.abs-2.ensures, c.before.before.before.abs.ensures)
