use Rattle.text.proofs.Pieces.{both}
use Rattle.roster_words.specs.Answers.{named_text}
use Rattle.roster_words.proofs.put_named.Goals as goal

pub returns : goal.returns
unfolding named_text
returns c = both c.put_bytes-p.ensures (both c.put_decimal-p.ensures c.put_bytes.ensures)
