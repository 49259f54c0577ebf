use Rattle.text.proofs.Pieces.{both}
use Rattle.ephemeris_text.specs.Rows.{no_state}
use Rattle.ephemeris_text.proofs.put_no_state.Goals as goal

pub returns : goal.returns
unfolding no_state
returns c =
    let z = c.before.before in
    let y = z in
    both y.put_three_words-p.ensures z.put_three_words.ensures
