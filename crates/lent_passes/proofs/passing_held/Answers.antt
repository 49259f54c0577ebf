use mathlib.Core.Path.{sym, ◌∙◌}
use Rattle.lent_requests.proofs.Loads.{loaded, unloaded}
use Rattle.lent_passes.proofs.Posts.{short_room, short_memory, long_enough, pass_short, pass_held}
use Rattle.lent_passes.proofs.passing_held.Goals as goal

pub returns-then-room-lt4 : goal.returns-then-room-lt4
returns-then-room-lt4 c =
    pass_short c.args.numbers.now c.args.marks.now c.args.station.now c.args.start c.args.step c.args.samples c.args.room _ _ c.geodetic_of-g.ensures c.element-least.ensures _
    (short_room 4 _ _ _ c.if-room-lt4.true) c.short_call.ensures

pub returns-in-Some : goal.returns-in-Some
returns-in-Some c =
    let h = loaded c.args.numbers.now c.args.marks.now _ (sym c.load.ensures ∙ c.in-Some.is) in
    pass_held c.args.numbers.now c.args.marks.now c.args.station.now c.args.start c.args.step c.args.samples c.args.room _ _ c.geodetic_of-g.ensures c.element-least.ensures _ _
    (long_enough 4 _ _ _ c.if-room-lt4.false h.0) h.1 c.next_pass.ensures

pub returns-in-None : goal.returns-in-None
returns-in-None c =
    let h = unloaded c.args.numbers.now c.args.marks.now (sym c.load.ensures ∙ c.in-None.is) in
    pass_short c.args.numbers.now c.args.marks.now c.args.station.now c.args.start c.args.step c.args.samples c.args.room _ _ c.geodetic_of-g.ensures c.element-least.ensures _
    (short_memory 4 _ _ _ c.if-room-lt4.false h) c.short_call-in-None.ensures
