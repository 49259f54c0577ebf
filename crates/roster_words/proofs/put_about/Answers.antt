use mathlib.Core.Path.{ap}
use Rattle.text.proofs.Pieces.{both, same}
use Rattle.roster_words.specs.Answers.{number_text, about_text}
use Rattle.roster_words.proofs.put_about.Goals as goal

pub returns : goal.returns
unfolding about_text
returns c =
    both c.put_bytes-p.ensures (both (same (ap number_text c.read-reading.ensures) c.put_number-p.ensures) c.put_bytes.ensures)
