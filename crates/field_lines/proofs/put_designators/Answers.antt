use mathlib.Core.Path.{sym, ◌∙◌}
use native.Mathlib.Omega.{arith}
use Rattle.text.proofs.Pieces.{both}
use Rattle.text.specs.Output.{bytes}
use Rattle.listing.specs.Listing.{then, designator_text}
use Rattle.changes.specs.Entry.{same_designator}
use Rattle.field_lines.proofs.Pieces.{put_line, put_none}
use Rattle.field_lines.proofs.put_designators.Goals as goal

pub returns-then-same_designator : goal.returns-then-same_designator
returns-then-same_designator c =
    let a = c.args in
    put_none (same_designator a.first a.second) a.number (bytes "designator") (then (designator_text a.first) (designator_text a.second))
    (sym c.same_designator.ensures ∙ c.if-same_designator.true) (omega arith) (omega arith)

pub returns : goal.returns
returns c =
    let a = c.args in
    put_line (same_designator a.first a.second) a.number (bytes "designator") (then (designator_text a.first) (designator_text a.second))
    (sym c.same_designator.ensures ∙ c.if-same_designator.false)
    c.put_name-p.ensures
    (both c.put_designator-p.ensures (both c.put_byte-p.ensures c.put_designator-p-2.ensures))
    c.put_byte.ensures
