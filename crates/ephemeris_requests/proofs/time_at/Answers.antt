use Prim.Native.Nat.{◌*◌, ◌≤◌}
use mathlib.Core.Path.{◌∙◌}
use native.Mathlib.Omega.{arith}
use Rattle.text.proofs.Signed.{steady}
use Rattle.ephemeris_requests.proofs.Laws.{still_before, behind_it, onward, far_most, time_is}
use Rattle.ephemeris_requests.proofs.time_at.Tie as tie
use Rattle.ephemeris_requests.proofs.time_at.Lts as lts
use Rattle.ephemeris_requests.proofs.time_at.Reads as reads
use Rattle.ephemeris_requests.proofs.time_at.Goals as goal

-- the three that are cut, and their product
far : (c : (lts.After-at_most3 tie.the-claims reads.Pre reads.Post)) → c.at_most-rows.result * c.at_most-step.result ≤ 864000000000000000
far c = far_most c.args.i c.args.grid.step c.at_most-rows.result c.at_most-step.result c.at_most-rows.ensures c.at_most-step.ensures

near : (c : (lts.After-at_most3 tie.the-claims reads.Pre reads.Post)) → c.at_most-n.result ≤ 999999999999999
near c = omega (arith, c.at_most-n.ensures)

pub returns-then-far-n : goal.returns-then-far-n
returns-then-far-n c =
    steady c.with_sign.result (record { sfits = c.with_sign.type_inv }) ∙ time_is c.args.grid c.args.i _ c.at_most-n.result c.at_most-rows.result c.at_most-step.result
    c.if-grid.true c.at_most-n.ensures c.at_most-rows.ensures c.at_most-step.ensures
    (c.with_sign.ensures ∙ still_before _ _ c.if-far-n.true)

pub returns-then-grid : goal.returns-then-grid
returns-then-grid c =
    steady c.with_sign-then-grid.result (record { sfits = c.with_sign-then-grid.type_inv }) ∙ time_is c.args.grid c.args.i _ c.at_most-n.result c.at_most-rows.result c.at_most-step.result
    c.if-grid.true c.at_most-n.ensures c.at_most-rows.ensures c.at_most-step.ensures
    (c.with_sign-then-grid.ensures ∙ behind_it _ _ c.if-far-n.false)

pub returns : goal.returns
returns c =
    steady c.with_sign-2.result (record { sfits = c.with_sign-2.type_inv }) ∙ time_is c.args.grid c.args.i _ c.at_most-n.result c.at_most-rows.result c.at_most-step.result
    c.if-grid.false c.at_most-n.ensures c.at_most-rows.ensures c.at_most-step.ensures
    (c.with_sign-2.ensures ∙ onward _ _)

pub overflow_mul-far : goal.overflow_mul-far
overflow_mul-far c = let f = far c in omega arith

pub with_sign-requires : goal.with_sign-requires
with_sign-requires c = let n = near c.before.before in omega arith

pub with_sign-requires-then-grid : goal.with_sign-requires-then-grid
with_sign-requires-then-grid c = let f = far c.before.before in omega arith

pub overflow_add-n : goal.overflow_add-n
overflow_add-n c = let f = far c.before in let n = near c.before in omega arith

pub with_sign-requires-2 : goal.with_sign-requires-2
with_sign-requires-2 c = let f = far c.before in let n = near c.before in omega arith
