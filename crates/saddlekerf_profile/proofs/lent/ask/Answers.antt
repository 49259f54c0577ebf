use Rattle.saddlekerf_profile.proofs.Posts.{ask_short, ask_full}
use Rattle.saddlekerf_profile.proofs.lent.ask.Goals as goal

pub returns-then-state-lt6 : goal.returns-then-state-lt6
returns-then-state-lt6 c = ask_short _ _ _ _ c.if-state-lt6.true _ c.answer.ensures

pub returns : goal.returns
returns c =
    ask_full _ _ _ _ c.if-state-lt6.false _ _ _ _ _ c.request-a.ensures.value c.request-a.ensures.state_after c.keep_place.ensures.numbers_after c.keep_place.ensures.marks_after c.answer-2.ensures
