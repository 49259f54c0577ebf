use Rattle.std.proofs.Common.{sym, ◌∙◌, arith}
use Rattle.station_text.proofs.Words.{digit_on, below_digits, above_digits, digits_end}
use Rattle.station_text.proofs.digits_on.Goals as goal

pub returns-then-b-lt48 : goal.returns-then-b-lt48
returns-then-b-lt48 c =
    (sym (below_digits c.loop-b.v c.args.s.now c.loop-b.b-index (omega arith) c.if-b-lt48.true) ∙ c.loop-b.invariant.to_come, omega arith)

pub returns-then-b-gt57 : goal.returns-then-b-gt57
returns-then-b-gt57 c =
    (sym (above_digits c.loop-b.v c.args.s.now c.loop-b.b-index (omega arith) c.if-b-lt48.false c.if-b-gt57.true) ∙ c.loop-b.invariant.to_come, omega arith)

pub loop-b-preserved : goal.loop-b-preserved
loop-b-preserved c = record {
  bounded = c.push-v.ensures.1;
  to_come = rw c.push-v.ensures.0 (sym (digit_on c.loop-b.v c.args.s.now c.loop-b.b-index (omega arith) c.if-b-lt48.false c.if-b-gt57.false) ∙ c.loop-b.invariant.to_come);
}

pub returns : goal.returns
returns c =
    (sym (digits_end c.loop-b.v c.args.s.now c.loop-b.b-index c.loop-b-test.false) ∙ c.loop-b.invariant.to_come, c.loop-b.invariant.bounded)
