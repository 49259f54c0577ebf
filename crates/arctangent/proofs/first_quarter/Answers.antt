use Rattle.arctangent.specs.Angle.{quarter}
use borrow.Author.Rules.{rules}
use Rattle.floats.proofs.Literals.{literal}
use Rattle.arctangent.proofs.first_quarter.Goals as goal

pub returns-then-ay-ax : goal.returns-then-ay-ax
unfolding quarter literal
returns-then-ay-ax c = simp c.before.if-ay-ax.true (cc)

pub returns : goal.returns
unfolding quarter literal
returns c = simp c.before.if-ay-ax.false (cc)
