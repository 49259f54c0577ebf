use Rattle.saddlekerf_profile.proofs.Posts.{not_saved, saved}
use Rattle.saddlekerf_profile.proofs.lent.put_list.Goals as goal

pub returns-then-l : goal.returns-then-l
returns-then-l c =
    let rest = saved _ _ _ c.if-l.true c.settle.ensures.numbers_after c.settle.ensures.marks_after in
    record { value = c.answer.ensures; numbers_after = rest.0; marks_after = rest.1 }

pub returns : goal.returns
returns c =
    let rest = not_saved _ _ _ c.if-l.false in
    record { value = c.answer-2.ensures; numbers_after = rest.0; marks_after = rest.1 }
