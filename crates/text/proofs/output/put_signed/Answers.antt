use lib.IntN.{nat_abs}
use Rattle.integers.proofs.Signed.{negative}
use Rattle.text.proofs.Signed.{with_minus, without, steady}
use Rattle.text.proofs.Pieces.{both, same}
use Rattle.text.specs.Output.{decimal}
use mathlib.Core.List.{◌∷◌}
use mathlib.Core.Path.{sym, ap, ◌∙◌}
use Rattle.text.proofs.output.put_signed.Goals as goal

pub returns-then-v-lt0 : goal.returns-then-v-lt0
returns-then-v-lt0 c =
    let p = c in
    let q = p in
    let t = q in
    let m = t.magnitude-m in
    let s = t in
    same (ap (λ n. 45 ∷ decimal n) (m.ensures ∙ ap nat_abs (steady _ s.ranges.v)) ∙ with_minus s.args.v (sym (negative _ s.ranges.v) ∙ t.if-v-lt0.true))
    (both q.put_byte-p.ensures p.put_decimal.ensures)

pub returns : goal.returns
returns c =
    let p = c in
    let t = p in
    let m = t.magnitude-m in
    let s = t in
    same (ap decimal (m.ensures ∙ ap nat_abs (steady _ s.ranges.v)) ∙ without s.args.v (sym (negative _ s.ranges.v) ∙ t.if-v-lt0.false)) p.put_decimal-2.ensures
