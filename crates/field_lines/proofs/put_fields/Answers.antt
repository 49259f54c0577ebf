use native.Mathlib.Omega.{arith}
use mathlib.Core.Path.{sym, ◌∙◌}
use Rattle.field_lines.proofs.Pieces.{both_legal, first_illegal, second_illegal}
use Rattle.field_lines.proofs.put_fields.Goals as goal

pub put_legal-requires : goal.put_legal-requires
put_legal-requires c = (sym c.legal.ensures ∙ c.if-legal.true, sym c.legal-then-legal.ensures ∙ c.if-legal-2.true)

pub returns-then-legal-2 : goal.returns-then-legal-2
returns-then-legal-2 c =
    let a = c.args in
    both_legal a.a a.b (sym c.legal.ensures ∙ c.if-legal.true) (sym c.legal-then-legal.ensures ∙ c.if-legal-2.true) c.put_legal.ensures

pub returns-else-legal-2 : goal.returns-else-legal-2
returns-else-legal-2 c =
    let a = c.args in
    second_illegal a.a a.b (sym c.legal.ensures ∙ c.if-legal.true) (sym c.legal-then-legal.ensures ∙ c.if-legal-2.false) (omega arith) (omega arith)

pub returns-else-legal : goal.returns-else-legal
returns-else-legal c =
    let a = c.args in
    first_illegal a.a a.b (sym c.legal.ensures ∙ c.if-legal.false) (omega arith) (omega arith)
