use mathlib.Core.Path.{ap, sym, ◌∙◌}
use Rattle.std.specs.Prelude.{Err}
use native.Mathlib.Omega.{arith}
use mir.Syntax.{w64}
use mir.ValLaws.{to_z-of_z}
use Rattle.saddlekerf_profile.proofs.Holds.{loaded_here, lengths}
use Rattle.saddlekerf_profile.proofs.Posts.{request_near, request_deep, request_short_lem}
use Rattle.saddlekerf_profile.proofs.lent.request_held.Goals as goal

pub ask-requires : goal.ask-requires
ask-requires c =
    let h = lengths _ _ (loaded_here c.args.numbers.now c.args.marks.now _ (sym c.in-Ok.is ∙ c.load_near.ensures)).long in
    record { in_bounds = omega (arith, h.0); in_bounds_2 = omega (arith, h.1) }

pub returns-in-Ok : goal.returns-in-Ok
returns-in-Ok c =
    request_near c.args.numbers.now c.args.marks.now c.args.time c.args.state.now _
    (loaded_here c.args.numbers.now c.args.marks.now _ (sym c.in-Ok.is ∙ c.load_near.ensures)) _ (to_z-of_z w64 _ c.ranges.time) _ _ _ _ c.ask.ensures

pub returns-in-DeepSpace : goal.returns-in-DeepSpace
returns-in-DeepSpace c =
    request_deep c.args.numbers.now c.args.marks.now c.args.time c.args.state.now
    (loaded_here c.args.numbers.now c.args.marks.now _ (sym (c.in-Err.is ∙ ap Err c.in-DeepSpace.is) ∙ c.load_near.ensures)) _ c.answer.ensures

pub returns-in-RoomTooShort : goal.returns-in-RoomTooShort
returns-in-RoomTooShort c =
    request_short_lem c.args.numbers.now c.args.marks.now c.args.time c.args.state.now
    (loaded_here c.args.numbers.now c.args.marks.now _ (sym (c.in-Err.is ∙ ap Err c.in-RoomTooShort.is) ∙ c.load_near.ensures)) _ c.answer-in-RoomTooShort.ensures
