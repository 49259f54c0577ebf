use mathlib.Core.Path.{ap, ◌∙◌}
use Rattle.marked_line.specs.Marked.{part, marked}
use Rattle.text.proofs.Pieces.{both, same}
use Rattle.reading_faults.specs.Ranges.{from_of, range_in}
use Rattle.reading_faults.proofs.put_range_in.Goals as goal

pub returns : goal.returns
unfolding range_in
returns c =
    let f = c.from_of-from.ensures in
    let a = c.args in
    both c.put_bytes-p.ensures
    (both c.put_field-p.ensures
    (both (same (ap (λ k. part k c.width_of-width.result a.line.now) f ∙ ap (λ k. part (from_of a.field) k a.line.now) c.width_of-width.ensures) c.put_part-p.ensures)
    (both c.put_limits-p.ensures
    (same (ap (λ k. marked k c.width_of-width.result a.line.now) f ∙ ap (λ k. marked (from_of a.field) k a.line.now) c.width_of-width.ensures) c.put_marked.ensures))))
