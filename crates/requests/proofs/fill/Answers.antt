use Rattle.std.proofs.Common.{arith, rules}
use mir.Syntax.{w64}
use mir.ValLaws.{to_z-of_z}
use Rattle.resonance.proofs.Handed.{unknown_right, unknown_place}
use Rattle.requests.proofs.Filling.{filling_none, filling_put, filling_two, filling_done, filling_at, filling_to, done_from, few_of, first_of, second_of}
use Rattle.requests.proofs.fill.Goals as goal

pub loop-k-init : goal.loop-k-init
loop-k-init c =
    (filling_none _ _ _ _ _ _ (omega arith) (omega arith) (omega arith) (omega arith), unknown_right _ _ _ c.unknown-h.ensures)

pub overflow_add-total : goal.overflow_add-total
overflow_add-total c =
    record { fits = omega (arith, few_of _ _ _ _ (first_of _ _ _ _ _ c.ask_two-x.ensures.two_value), c.loop-k.invariant.0.few) }

pub overflow_add-total-in-loop-k : goal.overflow_add-total-in-loop-k
overflow_add-total-in-loop-k c =
    record { fits = omega (arith, few_of _ _ _ _ (first_of _ _ _ _ _ c.ask_two-x.ensures.two_value), few_of _ _ _ _ (second_of _ _ _ _ _ c.ask_two-x.ensures.two_value), c.loop-k.invariant.0.few) }

pub loop-k-preserved : goal.loop-k-preserved
loop-k-preserved c =
    let e = c.ask_two-x.ensures in
    let w = c.put_two.ensures in (
      filling_to
          (filling_at
          (filling_two _ _ _ _ _ _ _ _ _ _ _ _ _ _ _ _ _ _ _ c.loop-k.invariant.0 (omega arith) e.two_value
          (to_z-of_z w64 _ (record { sfits = search rules })) (to_z-of_z w64 _ (record { sfits = search rules }))
          (w.refusals_after, (w.states_after, w.rounds_after)))
          e.place_value)
          (omega arith),
      e.right,
    )

pub overflow_add-total-then-times-eq1 : goal.overflow_add-total-then-times-eq1
overflow_add-total-then-times-eq1 c = record { fits = omega (arith, few_of _ _ _ _ c.ask-a.ensures, c.loop-k.invariant.0.few) }

-- the last of an odd number of times
pub returns-then-times-eq1 : goal.returns-then-times-eq1
returns-then-times-eq1 c =
    let w = c.put_row.ensures in
    done_from (unknown_place _ _ c.unknown-h.ensures)
    (filling_done
    (filling_put _ _ _ _ _ _ _ _ _ _ _ _ _ _ _ _ _ _ (filling_to c.loop-k.invariant.0 (omega arith)) (omega arith) c.ask-a.ensures (to_z-of_z w64 _ (record { sfits = search rules }))
    (w.refusals_after, (w.states_after, w.rounds_after)))
    (omega arith))

pub returns-else-times-eq1 : goal.returns-else-times-eq1
returns-else-times-eq1 c =
    done_from (unknown_place _ _ c.unknown-h.ensures) (filling_done c.loop-k.invariant.0 (omega arith))
