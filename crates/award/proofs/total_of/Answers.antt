use Rattle.std.proofs.Common.{◌≡◌, refl, ap, ◌∙◌, length, arith, rules}
use Rattle.award.specs.Plan.{sum_below}
use Rattle.award.proofs.Rules.{exists, bid_named, more_sum}
use Rattle.award.proofs.total_of.Goals as goal

pub loop-x-init : goal.loop-x-init
unfolding sum_below
loop-x-init c = record { few = search rules; so_far = refl }

pub offer_at-o-requires : goal.offer_at-o-requires
offer_at-o-requires c = exists _ c.args.entries.now _ c.requires.entries_value c.loop-x.x-index (omega arith)

pub overflow_add-sum : goal.overflow_add-sum
overflow_add-sum c =
    let b = bid_named c.args.offers.now c.args.entries.now _ _ c.requires.offers_value c.requires.entries_value c.loop-x.x-index c.loop-x-test.true c.offer_at-o.result c.offer_at-o.ensures in
    omega (arith, b.1, c.requires.entries_len_bound)

pub loop-x-preserved : goal.loop-x-preserved
loop-x-preserved c =
    let b = bid_named c.args.offers.now c.args.entries.now _ _ c.requires.offers_value c.requires.entries_value c.loop-x.x-index c.loop-x-test.true c.offer_at-o.result c.offer_at-o.ensures in
    record { few = omega (arith, b.1); so_far = more_sum _ c.loop-x.x-index c.loop-x.invariant.so_far b.0 }

pub returns : goal.returns
returns c =
    let e : c.loop-x.x-index ≡ length c.args.entries.now = omega arith in
    c.loop-x.invariant.so_far ∙ ap (sum_below _) e
