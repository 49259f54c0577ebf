use mathlib.Core.Path.{sym, ◌∙◌}
use Rattle.station_text.proofs.Words.{sized, micro_good, micro_bad}
use Rattle.station_text.proofs.read_micro.Goals as goal

pub slice_bounds-read_places-end : goal.slice_bounds-read_places-end
slice_bounds-read_places-end c = sized _ _ c.cut_at-n.ensures.1

pub returns-then-well_formed : goal.returns-then-well_formed
returns-then-well_formed c =
    micro_good c.args.s.now _ _ c.cut_at-n.ensures.0 c.after-from.ensures.1 (sym c.well_formed-2.ensures ∙ c.if-well_formed.true) c.read_places.ensures

pub returns : goal.returns
returns c =
    micro_bad c.args.s.now _ _ c.cut_at-n.ensures.0 c.after-from.ensures.1 (sym c.well_formed-2.ensures ∙ c.if-well_formed.false)
