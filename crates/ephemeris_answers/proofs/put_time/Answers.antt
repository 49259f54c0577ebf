use Rattle.text.proofs.Signed.{steady}
use Rattle.ephemeris_answers.proofs.put_time.Goals as goal

pub returns : goal.returns
returns c = rw (c.move_by-when.ensures, steady c.args.time c.ranges.time) at c.put_answer.ensures
