use mathlib.Core.Path.{sym, ◌∙◌}
use Rattle.floats.specs.Magnitude.{abs_of}
use Rattle.arctangent.proofs.Two.{in_quarter, of_ordinary, both}
use Rattle.arctangent.proofs.pairs.atan2_two.Goals as goal

pub returns-then-is_ordinary : goal.returns-then-is_ordinary
returns-then-is_ordinary c =
    let q = c.before.before.before in
    let t = q.before.before in
    let a = t.before.before in
    let test = a.before.before.before.before in
    let points = test.before.before.before.args in
    let are = both test.before.before.is_ordinary.result test.before.is_ordinary-2.result test.if-is_ordinary.true in (
      simp (
        c.before.before.place.ensures,
        q.in_quarter.ensures,
        q.before.small_arctans-a.ensures.0,
        t.before.tangent_of.ensures,
        a.before.before.abs-ax.ensures,
        a.before.before.before.abs-ay.ensures,
        in_quarter (abs_of points.y) (abs_of points.x),
        of_ordinary points.y points.x (sym test.before.before.is_ordinary.ensures ∙ are.0),
      ),
      simp (
        c.place-then-is_ordinary.ensures,
        c.before.in_quarter-then-is_ordinary.ensures,
        q.before.small_arctans-a.ensures.1,
        t.tangent_of-then-is_ordinary.ensures,
        a.abs-ax2.ensures,
        a.before.abs-ay2.ensures,
        in_quarter (abs_of points.y2) (abs_of points.x2),
        of_ordinary points.y2 points.x2 (sym test.before.is_ordinary-2.ensures ∙ are.1),
      ),
    )

pub returns : goal.returns
returns c = (c.before.atan2.ensures, c.atan2-2.ensures)
