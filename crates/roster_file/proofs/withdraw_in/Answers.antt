use mathlib.Core.Path.{sym, ◌∙◌}
use mathlib.Core.Bool.{false≢true}
use Rattle.roster_file.proofs.Marked.{unmarked}
use Rattle.roster_file.proofs.withdraw_in.Goals as goal

pub returns-then-failed : goal.returns-then-failed
returns-then-failed c =
    record { marked = c.lock_file.ensures; answered = λ e. absurd (false≢true (sym e ∙ c.if-failed.true)) }

pub returns : goal.returns
returns c =
    record {
      marked = λ e. c.unlock_file.ensures (c.withdraw_locked-answer.ensures.marked (c.lock_file.ensures e));
      answered = λ e. c.withdraw_locked-answer.ensures.answered (unmarked _ _ c.unlock_file.ensures e);
    }
