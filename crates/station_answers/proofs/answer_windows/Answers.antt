use Rattle.station_answers.proofs.answer_windows.Goals as goal

pub returns : goal.returns
returns c = λ h. c.print_strides.ensures (c.print_windows.ensures h)
