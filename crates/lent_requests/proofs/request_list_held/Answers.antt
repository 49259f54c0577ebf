use mathlib.Core.Path.{sym, ◌∙◌}
use Rattle.lent_requests.proofs.Loads.{loaded, unloaded}
use Rattle.lent_requests.proofs.Posts.{too_long, list_memory_short, list_full}
use Rattle.lent_requests.proofs.request_list_held.Goals as goal

pub returns-then-times-gt1024 : goal.returns-then-times-gt1024
returns-then-times-gt1024 c =
    too_long c.args.numbers.now c.args.marks.now c.args.times.now c.args.refusals.now c.args.states.now c.args.rounds.now c.if-times-gt1024.true _ c.answer.ensures

pub returns-in-Some : goal.returns-in-Some
returns-in-Some c =
    list_full c.args.numbers.now c.args.marks.now c.args.times.now c.args.refusals.now c.args.states.now c.args.rounds.now c.if-times-gt1024.false _
    (loaded c.args.numbers.now c.args.marks.now _ (sym c.load.ensures ∙ c.in-Some.is)) _ _ _ _ _ _ _ c.request_list-a.ensures c.put_saved.ensures.value c.put_saved.ensures.numbers_after c.put_saved.ensures.marks_after

pub returns-in-None : goal.returns-in-None
returns-in-None c =
    list_memory_short c.args.numbers.now c.args.marks.now c.args.times.now c.args.refusals.now c.args.states.now c.args.rounds.now c.if-times-gt1024.false
    (unloaded c.args.numbers.now c.args.marks.now (sym c.load.ensures ∙ c.in-None.is)) _ c.answer-in-None.ensures
