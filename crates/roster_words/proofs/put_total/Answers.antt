use Rattle.text.proofs.Pieces.{both}
use Rattle.roster_words.specs.Answers.{total_text}
use Rattle.roster_words.proofs.put_total.Goals as goal

pub returns : goal.returns
unfolding total_text
returns c =
    both c.put_bytes-p.ensures (both c.put_decimal-p.ensures (both c.put_bytes-p-2.ensures (both c.put_decimal-p-2.ensures
    (both c.put_bytes-p-3.ensures (both c.put_decimal-p-3.ensures c.put_byte.ensures)))))
