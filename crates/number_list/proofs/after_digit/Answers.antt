use Prim.Native.Nat.{◌+◌, ◌*◌, ◌≤◌}
use mathlib.Core.Path.{sym, ◌∙◌}
use native.Mathlib.Omega.{arith}
use borrow.Author.Tests.{leb-true}
use Rattle.number_list.specs.Numbers.{digited, most_number}
use Rattle.number_list.proofs.after_digit.Goals as goal

pub overflow_mul-result : goal.overflow_mul-result
overflow_mul-result c =
    let h : c.args.t.value * 10 + c.args.digit ≤ most_number = leb-true (c.args.t.value * 10 + c.args.digit) most_number (sym c.has_room.ensures ∙ c.if-has_room.true) in
    omega (arith, h)

pub overflow_add-result : goal.overflow_add-result
overflow_add-result c =
    let h : c.args.t.value * 10 + c.args.digit ≤ most_number = leb-true (c.args.t.value * 10 + c.args.digit) most_number (sym c.has_room.ensures ∙ c.if-has_room.true) in
    omega (arith, h)

pub returns-then-has_room : goal.returns-then-has_room
unfolding digited
returns-then-has_room c = simp (sym c.has_room.ensures ∙ c.if-has_room.true)

pub returns : goal.returns
unfolding digited
returns c = simp (sym c.has_room.ensures ∙ c.if-has_room.false, c.fault.ensures)
