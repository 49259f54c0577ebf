use Rattle.saddlekerf_profile.proofs.Posts.{kept_33, kept_place}
use Rattle.saddlekerf_profile.proofs.lent.keep_place.Goals as goal

pub returns-then-refusal-eq33 : goal.returns-then-refusal-eq33
returns-then-refusal-eq33 c =
    let rest = kept_33 _ _ _ c.if-refusal-eq33.true in
    record { numbers_after = rest.0; marks_after = rest.1 }

pub returns : goal.returns
returns c =
    let rest = kept_place _ _ _ c.if-refusal-eq33.false c.settle.ensures.numbers_after c.settle.ensures.marks_after in
    record { numbers_after = rest.0; marks_after = rest.1 }
