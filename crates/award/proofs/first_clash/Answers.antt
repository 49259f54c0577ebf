use Rattle.std.proofs.Common.{rules}
use Rattle.award.specs.Plan.{clashing}
use Rattle.award.proofs.first_clash.Goals as goal

pub returns : goal.returns
unfolding clashing
returns c = c.first_of.ensures (λ i. clashing c.args.offers.now c.args.entries.now c.args.turnaround i) (λ k b h p. search rules)
