use mathlib.Core.Path.{refl, ap, ◌∙◌}
use Rattle.station_text.specs.Words.{decimal_in, station_of}
use Rattle.station_text.proofs.Words.{sized, word_one, word_two, word_three}
use Rattle.station_text.proofs.read_station.Goals as goal

pub slice_bounds-read_decimal-end : goal.slice_bounds-read_decimal-end
slice_bounds-read_decimal-end c = sized _ _ c.cut_at-n.ensures.1

pub slice_bounds-read_decimal-end-2 : goal.slice_bounds-read_decimal-end-2
slice_bounds-read_decimal-end-2 c = sized _ _ c.cut_at-m.ensures.1

pub returns : goal.returns
unfolding station_of
returns c =
    let s = c.args.line.now in
    let n = c.cut_at-n.result in
    let i = c.after-from.result in
    let m = c.cut_at-m.result in
    let x = c.read_decimal-x.ensures ∙ ap decimal_in (word_one s n i c.cut_at-n.ensures.0 c.after-from.ensures.1) in
    let y = c.read_decimal-y.ensures ∙ ap decimal_in (word_two s n i c.cut_at-n.ensures.0 c.after-from.ensures.1 m c.cut_at-m.ensures.0) in
    let z = c.read_decimal-z.ensures ∙ ap decimal_in (word_three s n i c.cut_at-n.ensures.0 c.after-from.ensures.1 m c.cut_at-m.ensures.0 c.after-from-2.result _ c.after-from-2.ensures.1 refl) in
    c.station_from.ensures ∙ rw (x, y, z)
