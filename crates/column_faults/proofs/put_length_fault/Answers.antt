use lib.ListN.{get_or}
use mathlib.Core.Path.{ap, ◌∙◌}
use Rattle.marked_line.specs.Marked.{marked}
use Rattle.text.proofs.Pieces.{both, same}
use Rattle.column_faults.specs.Faults.{end_text, length_text}
use Rattle.column_faults.proofs.put_length_fault.Goals as goal

pub returns : goal.returns
unfolding length_text
returns c =
    let a = c.args in
    both c.put_size-p.ensures
    (both (same (ap end_text (c.byte_at-last.ensures ∙ ap (λ k. get_or a.line.now k 0) c.saturating_sub.ensures)) c.put_end-p.ensures)
    (both c.put_bytes-p.ensures (same (ap (λ k. marked k 1 a.line.now) c.at_most-from.ensures.0) c.put_marked.ensures)))
