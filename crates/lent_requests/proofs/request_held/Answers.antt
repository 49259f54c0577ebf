use mathlib.Core.Path.{sym, ◌∙◌}
use mir.Syntax.{w64}
use mir.ValLaws.{to_z-of_z}
use Rattle.lent_requests.proofs.Loads.{loaded, unloaded}
use Rattle.lent_requests.proofs.Posts.{room_short, memory_short, request_full}
use Rattle.lent_requests.proofs.request_held.Goals as goal

pub returns-then-state-lt6 : goal.returns-then-state-lt6
returns-then-state-lt6 c =
    room_short c.args.numbers.now c.args.marks.now c.args.time c.args.state.now c.if-state-lt6.true _ c.answer.ensures

pub returns-in-Some : goal.returns-in-Some
returns-in-Some c =
    request_full c.args.numbers.now c.args.marks.now c.args.time c.args.state.now c.if-state-lt6.false _
    (loaded c.args.numbers.now c.args.marks.now _ (sym c.load.ensures ∙ c.in-Some.is)) _ _ _ _ _ _ c.request.ensures (to_z-of_z w64 _ c.ranges.time) c.put_answer.ensures.value c.put_answer.ensures.numbers_after c.put_answer.ensures.marks_after c.put_answer.ensures.state_after

pub returns-in-None : goal.returns-in-None
returns-in-None c =
    memory_short c.args.numbers.now c.args.marks.now c.args.time c.args.state.now c.if-state-lt6.false
    (unloaded c.args.numbers.now c.args.marks.now (sym c.load.ensures ∙ c.in-None.is)) _ c.answer-in-None.ensures
