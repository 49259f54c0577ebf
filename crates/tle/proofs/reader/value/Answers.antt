use native.Mathlib.Omega.{arith}
use mathlib.Core.Path.{◌≡◌, sym, ◌∙◌}
use lib.ListN.{length}
use Rattle.tle.proofs.Steps.{value_more, value_done, places, small}
use Rattle.tle.proofs.reader.value.Goals as goal

pub overflow_mul-a : goal.overflow_mul-a
overflow_mul-a c = let l = c.loop-b in omega (arith, small l.a l.b-index l.invariant.0 (omega arith))

pub overflow_add-a : goal.overflow_add-a
overflow_add-a c = let l = c.loop-b in omega (arith, small l.a l.b-index l.invariant.0 (omega arith))

pub loop-b-preserved : goal.loop-b-preserved
loop-b-preserved c =
    let l = c.loop-b in (
      places _ _ _ l.invariant.0 c.digit.ensures.1,
      rw c.digit.ensures.0 (sym (value_more c.args.s.now l.b-index l.a (omega arith)) ∙ l.invariant.1),
    )

pub returns : goal.returns
returns c =
    let l = c.loop-b in
    let e : l.b-index ≡ length c.args.s.now = omega arith in
    (sym (value_done c.args.s.now _ _ (omega arith)) ∙ l.invariant.1, rw e at l.invariant.0)
