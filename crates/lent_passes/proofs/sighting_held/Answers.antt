use mathlib.Core.Path.{sym, ◌∙◌}
use Rattle.lent_requests.proofs.Loads.{loaded, unloaded}
use Rattle.lent_passes.proofs.Posts.{short_room, short_memory, long_enough, no_station, look_short, look_held}
use Rattle.lent_passes.proofs.sighting_held.Goals as goal

pub returns-then-not-on_earth : goal.returns-then-not-on_earth
returns-then-not-on_earth c =
    no_station c.args.numbers.now c.args.marks.now c.args.station.now c.args.instant c.args.room _ c.geodetic_of-g.ensures _ c.on_earth.ensures
    (c.if-not-on_earth.true)

pub returns-then-room-lt3 : goal.returns-then-room-lt3
returns-then-room-lt3 c =
    look_short c.args.numbers.now c.args.marks.now c.args.station.now c.args.instant c.args.room _ c.geodetic_of-g.ensures _ c.on_earth.ensures
    (c.if-not-on_earth.false) (short_room 3 _ _ _ c.if-room-lt3.true)

pub returns-in-Some : goal.returns-in-Some
returns-in-Some c =
    let h = loaded c.args.numbers.now c.args.marks.now _ (sym c.load.ensures ∙ c.in-Some.is) in
    look_held c.args.numbers.now c.args.marks.now c.args.station.now c.args.instant c.args.room _ c.geodetic_of-g.ensures _ c.on_earth.ensures
    (c.if-not-on_earth.false) (long_enough 3 _ _ _ c.if-room-lt3.false h.0) _ h.1 _ c.site_of.ensures _ c.sighted.ensures

pub returns-in-None : goal.returns-in-None
returns-in-None c =
    let h = unloaded c.args.numbers.now c.args.marks.now (sym c.load.ensures ∙ c.in-None.is) in
    look_short c.args.numbers.now c.args.marks.now c.args.station.now c.args.instant c.args.room _ c.geodetic_of-g.ensures _ c.on_earth.ensures
    (c.if-not-on_earth.false) (short_memory 3 _ _ _ c.if-room-lt3.false h)
