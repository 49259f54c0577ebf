use Rattle.pair_steps.proofs.take_next.Goals as goal

pub returns : goal.returns
returns c =
    let t = c in
    rw t.more.ensures at t.take_counted.ensures
