use native.Mathlib.Omega.{arith}
use mathlib.Core.Path.{refl, ap, ◌∙◌}
use Rattle.roster_calls.specs.Calls.{lodging_number, withdrawal_number, filling_number}
use Rattle.roster_script.specs.Total.{lent}
use Rattle.roster_script.proofs.Scripts.{taken_lodge, call_lodge, call_withdraw, call_fill, called, lent_as}
use Rattle.roster_script.proofs.step.Goals as goal

pub returns-then-kind-eq1 : goal.returns-then-kind-eq1
returns-then-kind-eq1 c =
    let a = c.args in
    called (lent a.roster.now a.row.now) _ _ _ _ (call_withdraw a.kind a.a a.b _ c.if-kind-eq1.true)
    (c.withdrawal_number.ensures ∙ ap withdrawal_number c.withdraw.ensures.0, lent_as _ _ _ _ c.withdraw.ensures.1 c.withdraw.ensures.2)

pub returns-then-kind-ne0 : goal.returns-then-kind-ne0
returns-then-kind-ne0 c =
    let a = c.args in
    called (lent a.roster.now a.row.now) _ _ _ _ (call_fill a.kind a.a a.b _ c.if-kind-eq1.false c.if-kind-ne0.true)
    (c.filling_number.ensures ∙ ap filling_number c.fill_row.ensures.0, lent_as _ _ _ _ refl c.fill_row.ensures.1)

pub overflow_add-half : goal.overflow_add-half
overflow_add-half c =
    record { fits = omega (arith, c.requires, taken_lodge c.args.kind c.args.a c.args.b c.if-kind-ne0.false) }

pub overflow_add-end : goal.overflow_add-end
overflow_add-end c =
    record { fits = omega (arith, c.requires, taken_lodge c.args.kind c.args.a c.args.b c.if-kind-ne0.false) }

pub slice_bounds-lodge-end : goal.slice_bounds-lodge-end
slice_bounds-lodge-end c = omega (arith, c.requires, taken_lodge c.args.kind c.args.a c.args.b c.if-kind-ne0.false)

pub slice_bounds-lodge-end-2 : goal.slice_bounds-lodge-end-2
slice_bounds-lodge-end-2 c = omega (arith, c.requires, taken_lodge c.args.kind c.args.a c.args.b c.if-kind-ne0.false)

pub returns : goal.returns
returns c =
    let a = c.args in
    called (lent a.roster.now a.row.now) _ _ _ _ (call_lodge a.kind a.a a.b a.at a.text.now c.if-kind-ne0.false)
    (c.lodging_number.ensures ∙ ap lodging_number c.lodge.ensures.0, lent_as _ _ _ _ c.lodge.ensures.1 c.lodge.ensures.2)
