use Rattle.pass_text.proofs.Choice.{first_put, second_put}
use Rattle.pass_text.proofs.put_set_word.Goals as goal

pub returns-then-still : goal.returns-then-still
returns-then-still c =
    let p = c in
    first_put _ _ _ _ _ _ _ p.if-still.true p.put_bytes.ensures

pub returns : goal.returns
returns c =
    let p = c in
    second_put _ _ _ _ _ _ _ p.if-still.false p.put_bytes-2.ensures
