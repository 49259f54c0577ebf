use mathlib.Core.Path.{refl, ◌∙◌}
use native.Mathlib.Omega.{arith}
use Rattle.report.proofs.Pairs.{whole_pair}
use Rattle.report.proofs.feed_whole.Goals as goal

pub line_end-a-requires : goal.line_end-a-requires
line_end-a-requires c = c.requires

pub loop-a-init : goal.loop-a-init
loop-a-init c = (omega arith, c.requires, c.line_end-a.ensures.value, c.line_end-a.ensures.upper_bound, refl)

pub line_end-b-requires : goal.line_end-b-requires
line_end-b-requires c = omega arith

pub returns-then-b-piece : goal.returns-then-b-piece
returns-then-b-piece c =
    record {
      piece_value = rw (c.fresh.ensures.0, c.fresh.ensures.1) c.loop-a.invariant.4;
      from_le_next = rw c.fresh.ensures.1 (c.loop-a.invariant.0, c.loop-a.invariant.1);
    }

pub slice_bounds-with_pair-start : goal.slice_bounds-with_pair-start
slice_bounds-with_pair-start c = omega (arith, c.loop-a.invariant.2)

pub line_end-a-requires-in-loop-a : goal.line_end-a-requires-in-loop-a
line_end-a-requires-in-loop-a c = omega (arith, c.line_end-b.ensures.upper_bound, c.if-b-piece.false)

pub loop-a-smaller : goal.loop-a-smaller
loop-a-smaller c = omega (arith, c.line_end-b.ensures.value, c.line_end-b.ensures.upper_bound, c.loop-a.invariant.2)

pub loop-a-preserved : goal.loop-a-preserved
loop-a-preserved c =
    let p = c.args.piece.now in (
      omega (arith, c.loop-a.invariant.0, c.loop-a.invariant.2, c.line_end-b.ensures.value),
      omega (arith, c.line_end-b.ensures.upper_bound, c.if-b-piece.false),
      c.line_end-a-in-loop-a.ensures.value,
      c.line_end-a-in-loop-a.ensures.upper_bound,
      whole_pair c.loop-a.count _ p c.loop-a.i c.loop-a.a c.line_end-b.result c.loop-a.invariant.2 c.loop-a-test.true c.line_end-b.ensures.value
          (omega (arith, c.line_end-b.ensures.upper_bound, c.if-b-piece.false)) c.with_pair-count.ensures
          ∙ c.loop-a.invariant.4,
    )

pub returns : goal.returns
returns c =
    record {
      piece_value = rw (c.fresh-2.ensures.0, c.fresh-2.ensures.1) c.loop-a.invariant.4;
      from_le_next = rw c.fresh-2.ensures.1 (c.loop-a.invariant.0, c.loop-a.invariant.1);
    }
