use Rattle.std.proofs.Common.{slice_index_or, arith, rules}
use Rattle.request_line.proofs.Reading.{begin, turn, small, rise, read, none, and_true, begun_some}
use Rattle.request_line.proofs.read_times.Goals as goal

pub loop-b-init : goal.loop-b-init
loop-b-init c = record { begun_so_far = search rules; within = search rules; to_do = begin c.args.s.now c.args.row.now }

pub loop-b-preserved : goal.loop-b-preserved
loop-b-preserved c =
    let a = c.args in
    let l = c.loop-b in
    let b = slice_index_or a.s.now l.b-index 0 in
    record {
      begun_so_far = rw c.step-t.ensures (omega (arith, rise l.t b l.invariant.within));
      within = rw c.step-t.ensures (small l.t b l.invariant.within);
      to_do = rw (c.step-t.ensures, c.store.ensures) (turn a.s.now a.row.now l.t l.row l.b-index l.invariant.to_do (omega arith));
    }

pub overflow_add-result : goal.overflow_add-result
overflow_add-result c =
    let l = c.loop-b in
    omega (arith, begun_some l.t l.b-index l.invariant.begun_so_far (and_true l.t.good l.t.some c.if-t.true).1)

pub returns-then-t : goal.returns-then-t
returns-then-t c =
    let a = c.args in
    let l = c.loop-b in
    read a.s.now a.row.now l.t l.row l.b-index l.invariant.to_do c.loop-b-test.false _ c.store-2.ensures c.if-t.true

pub returns : goal.returns
returns c =
    let a = c.args in
    let l = c.loop-b in
    none a.s.now a.row.now l.t l.row l.b-index l.invariant.to_do c.loop-b-test.false _ c.store-2.ensures c.if-t.false
