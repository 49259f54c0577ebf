use mathlib.Core.Path.{refl, ap, ◌∙◌}
use Rattle.station_text.specs.Words.{whole_in, start_of}
use Rattle.station_text.proofs.Words.{sized, word_one, word_two, word_three}
use Rattle.station_text.proofs.read_start.Goals as goal

pub slice_bounds-read_whole-end : goal.slice_bounds-read_whole-end
slice_bounds-read_whole-end c = sized _ _ c.cut_at-n.ensures.1

pub slice_bounds-read_whole-end-2 : goal.slice_bounds-read_whole-end-2
slice_bounds-read_whole-end-2 c = sized _ _ c.cut_at-m.ensures.1

pub returns : goal.returns
unfolding start_of
returns c =
    let s = c.args.line.now in
    let n = c.cut_at-n.result in
    let i = c.after-from.result in
    let m = c.cut_at-m.result in
    let x = c.read_whole-year.ensures ∙ ap whole_in (word_one s n i c.cut_at-n.ensures.0 c.after-from.ensures.1) in
    let y = c.read_whole-day.ensures ∙ ap whole_in (word_two s n i c.cut_at-n.ensures.0 c.after-from.ensures.1 m c.cut_at-m.ensures.0) in
    let z = c.read_whole-micros.ensures ∙ ap whole_in (word_three s n i c.cut_at-n.ensures.0 c.after-from.ensures.1 m c.cut_at-m.ensures.0 c.after-from-2.result _ c.after-from-2.ensures.1 refl) in
    c.start_from.ensures ∙ rw (x, y, z)
