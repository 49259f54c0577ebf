use Rattle.lent_requests.proofs.put_answer.Goals as goal

pub returns : goal.returns
returns c =
    record { value = c.answer.ensures; numbers_after = c.keep_place.ensures.numbers_after; marks_after = c.keep_place.ensures.marks_after; state_after = c.put_row.ensures }
