use Rattle.storing.proofs.Runs.{run_over}
use Rattle.storing.proofs.put.Goals as goal

pub returns : goal.returns
returns c = run_over c.args.values.now c.copy_from_slice.new.self c.args.numbers.now c.args.at c.requires c.copy_from_slice.ensures.after
