use Rattle.requests.proofs.put_two.Goals as goal

pub returns : goal.returns
returns c =
    let next = c.before.before.before.before.before.before in
    let first = next in record { refusals_after = rw (next.put_row-2.ensures.refusals_after, first.put_row.ensures.refusals_after); states_after = rw (next.put_row-2.ensures.states_after, first.put_row.ensures.states_after); rounds_after = rw (next.put_row-2.ensures.rounds_after, first.put_row.ensures.rounds_after) }
