use native.Mathlib.Nat.{add-sub_cancel_left}
use Rattle.tle.proofs.Steps.{part_length}
use Rattle.tle.proofs.reader.field_at.Goals as goal

pub returns : goal.returns
returns c =
    let s = c in
    let a = s.args in
    let e = rw (add-sub_cancel_left a.at a.w) at c.value.ensures in
    (e.0, rw (part_length a.line.now a.at a.w s.requires.0) at e.1)
