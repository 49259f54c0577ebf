use Rattle.floats.proofs.Literals.{literal}
use Rattle.text.proofs.Signed.{steady}
use Rattle.ephemeris_answers.proofs.put_answer.Goals as goal

pub returns : goal.returns
unfolding literal
returns c =
    record {
      answer = c.request_held-a.result;
      state = _;
      asked = rw (steady c.args.time c.ranges.time) at c.request_held-a.ensures;
      put = c.put_row.ensures;
    }
