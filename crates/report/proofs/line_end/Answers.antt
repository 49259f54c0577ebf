use Rattle.std.proofs.Common.{◌≡◌, ◌∙◌, length, arith}
use Rattle.report.proofs.Pairs.{line_turn, line_here, line_over_lem}
use Rattle.report.proofs.line_end.Goals as goal

pub returns-then-piece-i-eq10 : goal.returns-then-piece-i-eq10
returns-then-piece-i-eq10 c =
    record { value = line_here c.args.piece.now c.loop-i.i (omega arith) c.if-piece-i-eq10.true ∙ c.loop-i.invariant; upper_bound = omega arith }

pub loop-i-preserved : goal.loop-i-preserved
loop-i-preserved c = line_turn c.args.piece.now c.loop-i.i (omega arith) c.if-piece-i-eq10.false ∙ c.loop-i.invariant

pub returns : goal.returns
returns c =
    let p = c.args.piece.now in
    let e : length p ≡ c.loop-i.i = omega arith in
    record { value = e ∙ line_over_lem p c.loop-i.i c.loop-i-test.false ∙ c.loop-i.invariant; upper_bound = omega arith }
