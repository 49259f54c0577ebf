use mathlib.Core.Path.{◌≡◌, ◌∙◌}
use mathlib.Core.Bool.{cond}
use lib.Ieee.{neg, lt}
use Rattle.trigonometry.specs.Trig.{folded}
use Rattle.floats.specs.Notation.{◌⊕◌, ◌⊖◌, pi, half_pi}
use Rattle.floats.proofs.Branch.{yes, no}
use Rattle.floats.proofs.Literals.{literal}
use Rattle.trigonometry.proofs.fold.Goals as goal

pub returns-then-r : goal.returns-then-r
unfolding folded literal neg
returns-then-r c =
    let r = c.before.args.r in yes (lt half_pi r) (pi ⊖ r) (cond (lt r (neg half_pi)) (neg pi ⊖ r) r) c.if-r.true

pub returns-then-r-2 : goal.returns-then-r-2
unfolding folded literal neg
returns-then-r-2 c =
    let r = c.before.before.args.r in
    yes (lt r (neg half_pi)) (neg pi ⊖ r) r c.if-r-2.true ∙ no (lt half_pi r) (pi ⊖ r) (cond (lt r (neg half_pi)) (neg pi ⊖ r) r) c.before.if-r.false

pub returns : goal.returns
unfolding folded literal neg
returns c =
    let r = c.before.before.args.r in
    no (lt r (neg half_pi)) (neg pi ⊖ r) r c.if-r-2.false ∙ no (lt half_pi r) (pi ⊖ r) (cond (lt r (neg half_pi)) (neg pi ⊖ r) r) c.before.if-r.false
