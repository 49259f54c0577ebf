use mathlib.Core.Path.{sym}
use native.Mathlib.Omega.{arith}
use lib.Seq.{length-take-le}
use Rattle.windows.proofs.Looking.{begun, looks_none, looks_some}
use Rattle.windows.proofs.look.Goals as goal

pub returns-then-k-eq0 : goal.returns-then-k-eq0
returns-then-k-eq0 c = looks_none _ _ _ _ _ _ _ _ c.fill_times-k.ensures _ _ c.if-k-eq0.true

pub slice_bounds-times-end : goal.slice_bounds-times-end
slice_bounds-times-end c = omega (arith, c.fill_times-k.ensures.upto)

pub slice_bounds-request_list-end : goal.slice_bounds-request_list-end
slice_bounds-request_list-end c = sym (length-take-le _ _ (omega (arith, c.fill_times-k.ensures.upto)))

pub scan-windows-requires : goal.scan-windows-requires
scan-windows-requires c =
    let p = c.requires in
    let t = c.fill_times-k.ensures in
    let r = c.request_list-a.auto in record { start_bound = begun _ _ _ _ _ _ t c.if-k-eq0.false; step_bound = p.step_bound; k_bound = omega (arith, t.upto, p.samples_bound); k_in_bounds = omega (arith, r.refusals, t.upto, p.samples_bound); k_in_bounds_2 = omega (arith, r.states, t.upto, p.samples_bound); k_in_bounds_3 = omega (arith, t.upto, p.samples_in_bounds); k_in_bounds_4 = omega (arith, t.upto, p.samples_in_bounds_2) }

pub returns : goal.returns
returns c =
    let p = c.requires in
    let t = c.fill_times-k.ensures in
    looks_some _ _ _ _ _ _ _ _ t _ _ _ _ _ _ _ _ _ c.request_list-a.ensures (omega (arith, t.upto)) (omega arith) (omega arith) (omega arith) p.samples_bound _ _ _
    c.scan-windows.ensures
