use Rattle.pass_text.proofs.Choice.{first_put, second_put}
use Rattle.pass_text.proofs.put_rise_word.Goals as goal

pub returns-then-begun : goal.returns-then-begun
returns-then-begun c =
    let p = c in
    first_put _ _ _ _ _ _ _ p.if-begun.true p.put_bytes.ensures

pub returns : goal.returns
returns c =
    let p = c in
    second_put _ _ _ _ _ _ _ p.if-begun.false p.put_bytes-2.ensures
