use Rattle.text.proofs.Pieces.{both}
use Rattle.ephemeris_text.specs.Rows.{three_words}
use Rattle.ephemeris_text.proofs.put_three_words.Goals as goal

pub returns : goal.returns
unfolding three_words
returns c =
    let z = c.before.before in
    let y = z.before.before.before.before in
    let x = y in
    both x.put_word-p.ensures (both y.put_word-p-2.ensures z.put_word.ensures)
