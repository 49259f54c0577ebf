use native.Mathlib.Omega.{arith}
use borrow.Author.Tests.{eq-eqb, ne_eqb}
use lib.Dec.{eqb}
use Rattle.text.specs.Output.{signed}
use lib.IntN.{sub_ℕ}
use Rattle.field_lines.proofs.Pieces.{put_line, put_none}
use Rattle.field_lines.proofs.put_count.Goals as goal

pub returns-then-first-second : goal.returns-then-first-second
returns-then-first-second c =
    let a = c.args in
    put_none (eqb a.first a.second) a.number a.label.now (signed (sub_ℕ a.second a.first)) (eq-eqb a.first a.second c.if-first-second.true) (omega arith) (omega arith)

pub returns : goal.returns
returns c =
    let a = c.args in
    put_line (eqb a.first a.second) a.number a.label.now (signed (sub_ℕ a.second a.first)) (ne_eqb a.first a.second c.if-first-second.false)
    c.put_name-p.ensures c.put_less-p.ensures c.put_byte.ensures
