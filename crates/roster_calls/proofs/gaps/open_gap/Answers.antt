use Rattle.std.proofs.Common.{◌∙◌}
use Rattle.roster_calls.proofs.Shifts.{up_all}
use Rattle.roster_calls.proofs.gaps.open_gap.Goals as goal

pub returns : goal.returns
returns g c = c.copy_within.ensures.after ∙ up_all c.args.s.now c.args.at c.args.size c.requires
