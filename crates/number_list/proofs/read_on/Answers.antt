use Rattle.std.proofs.Common.{slice_index_or, arith}
use Rattle.number_list.proofs.Reading.{begin, turn, rise, read, none, and_true, begun_some}
use Rattle.number_list.proofs.read_on.Goals as goal

pub loop-b-init : goal.loop-b-init
loop-b-init c = record { begun_so_far = omega arith; to_do = begin c.args.s.now c.args.row.now }

pub loop-b-preserved : goal.loop-b-preserved
loop-b-preserved c =
    let i = c.loop-b.b-index in
    let b = slice_index_or c.args.s.now i 0 in
    record {
      begun_so_far = rw c.step-t.ensures (omega (arith, rise c.loop-b.t b));
      to_do = rw (c.step-t.ensures, c.store.ensures) (turn _ c.args.s.now c.args.row.now c.loop-b.t c.loop-b.row i c.loop-b.invariant.to_do (omega arith));
    }

pub overflow_add-result : goal.overflow_add-result
overflow_add-result c =
    omega (arith, begun_some c.loop-b.t c.loop-b.b-index c.loop-b.invariant.begun_so_far (and_true c.loop-b.t.good c.loop-b.t.some c.if-t.true).1)

pub returns-then-t : goal.returns-then-t
returns-then-t c =
    read _ c.args.s.now c.args.row.now c.loop-b.t c.loop-b.row c.loop-b.b-index c.loop-b.invariant.to_do c.loop-b-test.false _ c.store-2.ensures c.if-t.true

pub returns : goal.returns
returns c =
    none _ c.args.s.now c.args.row.now c.loop-b.t c.loop-b.row c.loop-b.b-index c.loop-b.invariant.to_do c.loop-b-test.false _ c.store-2.ensures c.if-t.false
