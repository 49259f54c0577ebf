use Rattle.report.proofs.Feeding.{end}
use mathlib.Core.Path.{refl, sym, ◌∙◌}
use native.Mathlib.Omega.{arith}
use borrow.Author.Rules.{rules}
use Rattle.report.proofs.State.feed.Goals as goal

pub loop-i-init : goal.loop-i-init
loop-i-init c = (search rules, refl)

pub feed_pair-fed-requires : goal.feed_pair-fed-requires
feed_pair-fed-requires c = c.loop-i-test.true

pub loop-i-smaller : goal.loop-i-smaller
loop-i-smaller c = omega (arith, c.feed_pair-fed.ensures.from_lt_next.0, c.feed_pair-fed.ensures.from_lt_next.1)

pub loop-i-preserved : goal.loop-i-preserved
loop-i-preserved c = (c.feed_pair-fed.ensures.from_lt_next.1, c.feed_pair-fed.ensures.piece_value ∙ c.loop-i.invariant.1)

pub returns : goal.returns
returns c = sym (end c.loop-i.state c.args.piece.now c.loop-i.i c.loop-i-test.false) ∙ c.loop-i.invariant.1
