use Prim.Native.Nat.{◌+◌}
use mathlib.Core.Path.{◌≡◌, ap, ◌∙◌}
use native.Mathlib.Omega.{arith}
use lib.ListN.{length, drop}
use Rattle.report.specs.State.{fresh, fed}
use Rattle.report.proofs.Pairs.{byte_in, byte_ends}
use Rattle.report.proofs.feed_pair.Goals as goal

pub feed_whole-requires : goal.feed_whole-requires
feed_whole-requires c = omega (arith, c.loop-i-test.true)

pub returns-then-lines-ge2 : goal.returns-then-lines-ge2
returns-then-lines-ge2 c =
    let p = c.args.piece.now in
    record {
      piece_value = c.feed_whole.ensures.piece_value
          ∙ ap (λ d. fed (fresh d) (drop (c.loop-i.i + 1) p)) c.with_lines.ensures
          ∙ byte_ends c.loop-i.lines c.feed-lines.result c.args.state.count p c.loop-i.i c.loop-i-test.true c.feed-lines.ensures c.if-lines-ge2.true
          ∙ c.loop-i.invariant;
      from_lt_next = (omega (arith, c.feed_whole.ensures.from_le_next.0), c.feed_whole.ensures.from_le_next.1);
    }

pub loop-i-preserved : goal.loop-i-preserved
loop-i-preserved c =
    let p = c.args.piece.now in
    byte_in c.loop-i.lines c.feed-lines.result c.args.state.count p c.loop-i.i c.loop-i-test.true c.feed-lines.ensures c.if-lines-ge2.false ∙ c.loop-i.invariant

pub returns : goal.returns
returns c =
    let p = c.args.piece.now in
    let e : length p ≡ c.loop-i.i = omega arith in
    record {
      piece_value = ap (λ n. fed (record { lines = c.loop-i.lines; count = c.args.state.count }) (drop n p)) e ∙ c.loop-i.invariant;
      from_lt_next = (omega (arith, c.requires), omega arith);
    }
