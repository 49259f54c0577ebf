use Rattle.text.proofs.Feeding.{turn, end}
use mathlib.Core.Path.{sym, ◌∙◌}
use native.Mathlib.Omega.{arith}
use Rattle.text.proofs.input.Lines.feed.Goals as goal

pub loop-byte-preserved : goal.loop-byte-preserved
loop-byte-preserved c =
    let l = c.loop-byte in
    rw c.step-lines.ensures (sym (turn l.lines c.args.piece.now l.byte-index (omega arith)) ∙ l.invariant)

pub returns : goal.returns
returns c = sym (end c.loop-byte.lines c.args.piece.now c.loop-byte.byte-index (omega arith)) ∙ c.loop-byte.invariant
