use mathlib.Core.Path.{refl, ap}
use Rattle.elementary.specs.Two.{Two}
use Rattle.sgp4.specs.declared.Row.{Row}
use Rattle.resonance.proofs.Handed.{unknown_right, unknown_place}
use Rattle.requests.proofs.Answers.{one_then, both_true, in_range_lem, advance_of_lem, carried_advance, carried_on, carried_stays_right, held_rows}
use Rattle.requests.proofs.ask_two.Goals as goal

pub returns-then-in_range : goal.returns-then-in_range
returns-then-in_range c =
    let a = c.before.before.before in
    let i = a in
    let r = i.requires in
    let n = both_true _ _ i.if-in_range.true in
    let right = carried_stays_right _ _ _ _ r a.carry-a.ensures in
    let rows = held_rows _ _ _ _ _ _ (carried_on _ _ _ _ r a.carry-a.ensures) (carried_on _ _ _ _ right c.carry-b.ensures) c.rows_at-rows.ensures in record {
      two_value = one_then _ _ _ _ _ _
          (in_range_lem _ _ _ _ (advance_of_lem a.carry-a.result) _ i.in_range.ensures n.0 (carried_advance _ _ _ _ r a.carry-a.ensures) (ap (λ (z : Two Row). z.first) rows))
          (in_range_lem _ _ _ _ (advance_of_lem c.carry-b.result) _ i.in_range-2.ensures n.1 (carried_advance _ _ _ _ right c.carry-b.ensures) (ap (λ (z : Two Row). z.second) rows));
      place_value = refl;
      right = carried_stays_right _ _ _ _ right c.carry-b.ensures;
    }

pub returns : goal.returns
returns c =
    record { two_value = c.ask_apart.ensures.two_value; place_value = unknown_place _ _ c.ask_apart.ensures.held_value; right = unknown_right _ _ _ c.ask_apart.ensures.held_value }
