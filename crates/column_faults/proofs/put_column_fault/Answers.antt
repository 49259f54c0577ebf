use lib.ListN.{get_or}
use mathlib.Core.Path.{ap, ◌∙◌}
use Rattle.marked_line.specs.Marked.{marked, named}
use Rattle.text.proofs.Pieces.{both, same}
use Rattle.column_faults.specs.Faults.{allowed_text, column_text}
use Rattle.column_faults.proofs.put_column_fault.Goals as goal

pub returns : goal.returns
unfolding column_text
returns c =
    let a = c.args in
    both c.put_place-p.ensures
    (both (same (ap named (c.byte_at-stands.ensures ∙ ap (λ k. get_or a.line.now k 0) c.saturating_sub-i.ensures)) c.put_named-p.ensures)
    (both c.put_bytes-p.ensures
    (both (same (ap allowed_text (c.byte_at-class.ensures ∙ ap (λ k. get_or a.layout.now k 0) c.saturating_sub-i.ensures)) c.put_allowed-p.ensures)
    (both c.put_bytes-p-2.ensures (same (ap (λ k. marked k 1 a.line.now) c.saturating_sub-i.ensures) c.put_marked.ensures)))))
