use Rattle.ephemeris_answers.proofs.rows.answer.Goals as goal

pub returns : goal.returns
returns c = λ h. c.print_room.ensures (c.rows_of-at.ensures h)
