use mathlib.Core.Path.{sym, ap, ◌∙◌}
use Rattle.floats.proofs.Branch.{yes, no}
use Rattle.station_call.specs.Call.{over_from, geodetic_from}
use Rattle.station_call.proofs.geodetic_from.Goals as goal

pub returns-in-At : goal.returns-in-At
unfolding geodetic_from
returns-in-At c =
    let d = c.args.latitude in
    c.over.ensures ∙ sym (ap (over_from d.value) c.in-At.is) ∙ yes d.good _ _ c.if-latitude.true

pub returns-in-Unread : goal.returns-in-Unread
unfolding geodetic_from
returns-in-Unread c =
    let d = c.args.latitude in
    sym (ap (over_from d.value) c.in-Unread.is) ∙ yes d.good _ _ c.if-latitude.true

pub returns : goal.returns
unfolding geodetic_from
returns c = no c.args.latitude.good _ _ c.if-latitude.false
