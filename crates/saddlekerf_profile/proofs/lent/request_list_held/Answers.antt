use mathlib.Core.Path.{ap, sym, ◌∙◌}
use Rattle.std.specs.Prelude.{Err}
use native.Mathlib.Omega.{arith}
use Rattle.saddlekerf_profile.proofs.Holds.{loaded_here, lengths}
use Rattle.saddlekerf_profile.proofs.Posts.{list_near, list_deep, list_short}
use Rattle.saddlekerf_profile.proofs.lent.request_list_held.Goals as goal

pub put_list-requires : goal.put_list-requires
put_list-requires c =
    let h = lengths _ _ (loaded_here c.args.numbers.now c.args.marks.now _ (sym c.in-Ok.is ∙ c.load_near.ensures)).long in
    record { in_bounds = omega (arith, h.0); in_bounds_2 = omega (arith, h.1) }

pub returns-in-Ok : goal.returns-in-Ok
returns-in-Ok c =
    list_near c.args.numbers.now c.args.marks.now c.args.times.now c.args.refusals.now c.args.states.now c.args.rounds.now _
    (loaded_here c.args.numbers.now c.args.marks.now _ (sym c.in-Ok.is ∙ c.load_near.ensures)) _ _ _ _ _ _ _ c.request_list-l.ensures c.put_list.ensures.value c.put_list.ensures.numbers_after c.put_list.ensures.marks_after

pub returns-in-DeepSpace : goal.returns-in-DeepSpace
returns-in-DeepSpace c =
    list_deep c.args.numbers.now c.args.marks.now c.args.times.now c.args.refusals.now c.args.states.now c.args.rounds.now
    (loaded_here c.args.numbers.now c.args.marks.now _ (sym (c.in-Err.is ∙ ap Err c.in-DeepSpace.is) ∙ c.load_near.ensures)) _ c.answer.ensures

pub returns-in-RoomTooShort : goal.returns-in-RoomTooShort
returns-in-RoomTooShort c =
    list_short c.args.numbers.now c.args.marks.now c.args.times.now c.args.refusals.now c.args.states.now c.args.rounds.now
    (loaded_here c.args.numbers.now c.args.marks.now _ (sym (c.in-Err.is ∙ ap Err c.in-RoomTooShort.is) ∙ c.load_near.ensures)) _ c.short_list.ensures
