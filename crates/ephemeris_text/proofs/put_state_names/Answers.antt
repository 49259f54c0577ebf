use Rattle.text.proofs.Pieces.{both}
use Rattle.ephemeris_text.specs.Rows.{state_names}
use Rattle.ephemeris_text.proofs.put_state_names.Goals as goal

pub returns : goal.returns
unfolding state_names
returns c =
    let z = c.before.before in
    let y = z in
    both y.put_three_words-p.ensures z.put_three_words.ensures
