use mathlib.Core.Path.{◌≡◌, ◌∙◌}
use mathlib.Core.Bool.{cond}
use lib.Ieee.{neg, lt}
use Rattle.trigonometry.specs.Trig.{wrapped}
use Rattle.floats.specs.Notation.{◌⊕◌, ◌⊖◌, pi, two_pi}
use Rattle.floats.proofs.Branch.{yes, no}
use Rattle.floats.proofs.Literals.{literal}
use Rattle.trigonometry.proofs.wrap.Goals as goal

pub returns-then-r : goal.returns-then-r
unfolding wrapped literal neg
returns-then-r c =
    let r = c.before.args.r in yes (lt pi r) (r ⊖ two_pi) (cond (lt r (neg pi)) (r ⊕ two_pi) r) c.if-r.true

pub returns-then-r-2 : goal.returns-then-r-2
unfolding wrapped literal neg
returns-then-r-2 c =
    let r = c.before.before.args.r in
    yes (lt r (neg pi)) (r ⊕ two_pi) r c.if-r-2.true ∙ no (lt pi r) (r ⊖ two_pi) (cond (lt r (neg pi)) (r ⊕ two_pi) r) c.before.if-r.false

pub returns : goal.returns
unfolding wrapped literal neg
returns c =
    let r = c.before.before.args.r in
    no (lt r (neg pi)) (r ⊕ two_pi) r c.if-r-2.false ∙ no (lt pi r) (r ⊖ two_pi) (cond (lt r (neg pi)) (r ⊕ two_pi) r) c.before.if-r.false
