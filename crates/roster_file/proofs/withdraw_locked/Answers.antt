use Rattle.roster_file.proofs.withdraw_locked.Goals as goal

pub returns : goal.returns
returns c =
    record { marked = λ e. c.withdraw_over.ensures.marked (c.read_file-n.ensures.failed_after e).0; answered = c.withdraw_over.ensures.answered }
