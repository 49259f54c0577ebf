use mathlib.Core.Path.{refl, ap, ◌∙◌}
use Rattle.station_text.specs.Words.{whole_in, micro_of}
use Rattle.station_text.proofs.Words.{sized, word_one, word_two, word_three}
use Rattle.ephemeris_requests.specs.Requests.{signed_in, grid_of}
use Rattle.ephemeris_requests.proofs.read_grid.Goals as goal

pub slice_bounds-read_signed-end : goal.slice_bounds-read_signed-end
slice_bounds-read_signed-end c = sized _ _ c.cut_at-n.ensures.1

pub slice_bounds-read_micro-end : goal.slice_bounds-read_micro-end
slice_bounds-read_micro-end c = sized _ _ c.cut_at-m.ensures.1

pub returns : goal.returns
unfolding grid_of
returns c =
    let s = c.args.line.now in
    let n = c.cut_at-n.result in
    let i = c.after-from.result in
    let m = c.cut_at-m.result in
    let x = c.read_signed-start.ensures ∙ ap signed_in (word_one s n i c.cut_at-n.ensures.0 c.after-from.ensures.1) in
    let y = c.read_micro-step.ensures ∙ ap micro_of (word_two s n i c.cut_at-n.ensures.0 c.after-from.ensures.1 m c.cut_at-m.ensures.0) in
    let z = c.read_whole-count.ensures ∙ ap whole_in (word_three s n i c.cut_at-n.ensures.0 c.after-from.ensures.1 m c.cut_at-m.ensures.0 c.after-from-2.result _ c.after-from-2.ensures.1 refl) in
    c.grid_from.ensures ∙ rw (x, y, z)
