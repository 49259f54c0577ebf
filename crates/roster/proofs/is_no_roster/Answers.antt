use mathlib.Core.Path.{ap, sym, ◌∙◌}
use Rattle.roster.specs.Roster.{is_none}
use Rattle.roster.proofs.Found.{found, no_roster}
use Rattle.roster.proofs.is_no_roster.Goals as goal

pub returns-in-Some : goal.returns-in-Some
returns-in-Some c =
    let a = c.args in
    ap is_none (sym (found 0 a.roster.now a.row.now _ (sym c.judge-found.ensures ∙ c.in-Some.is)).roster)

pub returns-in-None : goal.returns-in-None
returns-in-None c =
    let a = c.args in
    ap is_none (sym (no_roster 0 a.roster.now a.row.now (sym c.judge-found.ensures ∙ c.in-None.is)))
