use mathlib.Core.Path.{sym, ◌∙◌}
use native.Mathlib.Omega.{arith}
use Rattle.text.proofs.Pieces.{both}
use Rattle.listing.specs.Listing.{then, scaled_text}
use Rattle.changes.specs.Entry.{same_scaled}
use Rattle.field_lines.proofs.Pieces.{put_line, put_none}
use Rattle.field_lines.proofs.put_scaleds.Goals as goal

pub returns-then-same_scaled : goal.returns-then-same_scaled
returns-then-same_scaled c =
    let a = c.args in
    put_none (same_scaled a.first a.second) a.number a.label.now (then (scaled_text a.first) (scaled_text a.second))
    (sym c.same_scaled.ensures ∙ c.if-same_scaled.true) (omega arith) (omega arith)

pub returns : goal.returns
returns c =
    let a = c.args in
    put_line (same_scaled a.first a.second) a.number a.label.now (then (scaled_text a.first) (scaled_text a.second))
    (sym c.same_scaled.ensures ∙ c.if-same_scaled.false)
    c.put_name-p.ensures
    (both c.put_scaled-p.ensures (both c.put_byte-p.ensures c.put_scaled-p-2.ensures))
    c.put_byte.ensures
