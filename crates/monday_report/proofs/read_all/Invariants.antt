use Rattle.report.specs.State.{begun, More}
use Rattle.monday_report.proofs.read_all.Given as goal

abbrev pub invariant-loop : goal.invariant-loop
invariant-loop l = More begun l.state
