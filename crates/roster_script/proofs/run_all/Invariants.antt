use Rattle.roster_script.specs.Total.{lent}
use Rattle.roster_script.proofs.Scripts.{Along}
use Rattle.roster_script.proofs.run_all.Given as goal

-- what is left of the script, from the memory and the room as they are, is the whole
abbrev pub invariant-loop-j : goal.invariant-loop-j
invariant-loop-j l = Along (lent l.initial.roster l.initial.row) l.calls l.text l.initial.answers (lent l.roster l.row) l.answers l.at l.j
