use Prim.Native.Nat.{◌-◌, ◌*◌}
use native.Mathlib.Omega.{arith}
use lib.ListN.{length, drop, get_or}
use Rattle.script_steps.proofs.Running.{running_none, running_more, running_done, next_fits, times_fit, written_fits, calls_fit, places, next_rows, next_windows, next_step, index_small, index_eight, rows_small, windows_small, times_small}
use Rattle.script_steps.proofs.run_all.Goals as goal

pub loop-j-init : goal.loop-j-init
loop-j-init c =
    let p = c.requires in
    running_none _ _ _ _ _ _ _ _ c.args.firsts.now _ _ _ (omega arith) p.refusals_value p.states_value p.rounds_value (omega arith) (omega arith) (omega arith) (omega arith) (omega arith) (omega arith) (omega (arith, c.well_formed.1.1.1.1.1.1.1.1.0.1))

pub overflow_add-end : goal.overflow_add-end
overflow_add-end c =
    let f = c.loop-j.invariant in
    record { fits = times_small _ _ _ _ c.taken.ensures (next_fits 0 f c.loop-j-test.true) f.small }

pub slice_bounds-step-end : goal.slice_bounds-step-end
slice_bounds-step-end c = times_fit 0 _ c.loop-j.invariant c.loop-j-test.true c.taken.ensures

pub step-a-requires : goal.step-a-requires
step-a-requires c =
    let r = written_fits c.loop-j.invariant in
    record { rows_in_bounds = r.0; rows_in_bounds_2 = r.1.0; rows_in_bounds_3 = r.1.1 }

pub look-b-requires : goal.look-b-requires
look-b-requires c =
    let r = calls_fit c.loop-j.invariant c.loop-j-test.true in
    record { j_in_bounds = r.0; j_in_bounds_2 = r.1.0; seen_in_bounds = r.1.1.0; seen_in_bounds_2 = r.1.1.1 }

pub offset_bounds-strides-j : goal.offset_bounds-strides-j
offset_bounds-strides-j c = record { fits = index_small _ _ c.loop-j-test.true c.loop-j.invariant.few }

pub bounds-strides-j : goal.bounds-strides-j
bounds-strides-j c = (places c.loop-j.invariant c.loop-j-test.true).0

pub offset_bounds-found-j : goal.offset_bounds-found-j
offset_bounds-found-j c = record { fits = index_eight _ _ c.loop-j-test.true c.loop-j.invariant.few }

pub bounds-found-j : goal.bounds-found-j
bounds-found-j c = (places c.loop-j.invariant c.loop-j-test.true).1

pub overflow_add-rows : goal.overflow_add-rows
overflow_add-rows c =
    let a = c.args in
    let next = next_step 0 _ c.loop-j.invariant c.loop-j-test.true c.taken.ensures c.step-a.ensures c.look-b.ensures in
    let few = next_rows (get_or a.lengths.now c.loop-j.j 0) c.loop-j.j (drop c.loop-j.at a.times.now) a.stations.now a.spans.now (length c.loop-j.refusals - c.loop-j.rows) (length c.loop-j.states - 6 * c.loop-j.rows) (length c.loop-j.rounds - c.loop-j.rows) (length c.loop-j.firsts - c.loop-j.seen) (length c.loop-j.lasts - c.loop-j.seen) next in
    record { fits = rows_small c.loop-j.rows c.loop-j.at _ _ _ c.loop-j.invariant.under few (next_fits 0 c.loop-j.invariant c.loop-j-test.true) c.loop-j.invariant.small }

pub overflow_add-seen : goal.overflow_add-seen
overflow_add-seen c =
    let a = c.args in
    let next = next_step 0 _ c.loop-j.invariant c.loop-j-test.true c.taken.ensures c.step-a.ensures c.look-b.ensures in
    let few = next_windows (get_or a.lengths.now c.loop-j.j 0) c.loop-j.j (drop c.loop-j.at a.times.now) a.stations.now a.spans.now (length c.loop-j.refusals - c.loop-j.rows) (length c.loop-j.states - 6 * c.loop-j.rows) (length c.loop-j.rounds - c.loop-j.rows) (length c.loop-j.firsts - c.loop-j.seen) (length c.loop-j.lasts - c.loop-j.seen) next in
    record { fits = windows_small c.loop-j.seen _ _ _ c.loop-j.invariant.fit_f few.0 c.loop-j.invariant.len_f c.loop-j.invariant.low }

pub loop-j-preserved : goal.loop-j-preserved
loop-j-preserved c =
    let f = c.loop-j.invariant in
    let h = c.loop-j-test.true in
    let m = c.taken.ensures in
    running_more _ _ _ _ _ _ _ _ _ _ _ _ _ _ _ _ _ _ _ _ _ _ _ _ 0 _ _ _ _ _ _ _ _ _ _ f h m (next_step 0 _ f h m c.step-a.ensures c.look-b.ensures)

pub shape_of-refusals : goal.shape_of-refusals
shape_of-refusals c = c.loop-j.invariant.len_a

pub shape_of-states : goal.shape_of-states
shape_of-states c = c.loop-j.invariant.len_b

pub shape_of-rounds : goal.shape_of-rounds
shape_of-rounds c = c.loop-j.invariant.len_c

pub shape_of-firsts : goal.shape_of-firsts
shape_of-firsts c = c.loop-j.invariant.len_f

pub shape_of-lasts : goal.shape_of-lasts
shape_of-lasts c = c.loop-j.invariant.len_l

pub shape_of-strides : goal.shape_of-strides
shape_of-strides c = c.loop-j.invariant.len_d

pub shape_of-found : goal.shape_of-found
shape_of-found c = c.loop-j.invariant.len_e

pub returns : goal.returns
returns c = running_done c.loop-j.invariant (omega arith)
