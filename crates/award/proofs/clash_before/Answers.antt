use Rattle.std.proofs.Common.{◌<◌, length, arith}
use Rattle.std.proofs.iter.Serving.{serving}
use Rattle.award.proofs.Rules.{exists}
use Rattle.award.proofs.clash_before.Goals as goal

pub offer_at-p-requires : goal.offer_at-p-requires
offer_at-p-requires c = exists _ c.args.entries.now _ c.requires.entries_value c.args.i c.requires.i_in_bounds

pub first_of-requires : goal.first_of-requires
first_of-requires c = λ k h.
    let n = exists _ c.args.entries.now _ c.requires.entries_value k (omega (arith, h, c.requires.i_in_bounds)) in
    let g : k < length c.args.entries.now = omega (arith, h, c.requires.i_in_bounds) in
    grind (serving, n, g)
