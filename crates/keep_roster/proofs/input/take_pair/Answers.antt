use Rattle.keep_roster.proofs.input.take_pair.Goals as goal

pub returns : goal.returns
returns c = λ e. c.print_room.ensures (c.lodge_in-answer.ensures.marked e)
