use Rattle.roster_file.proofs.lodge_locked.Goals as goal

pub returns : goal.returns
returns c =
    record { marked = λ e. c.lodge_over.ensures.marked (c.read_file_or-n.ensures.failed_after e).0; answered = c.lodge_over.ensures.answered }
