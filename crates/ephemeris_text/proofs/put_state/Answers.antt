use Rattle.text.proofs.Pieces.{both}
use Rattle.ephemeris_text.specs.Rows.{state_text}
use Rattle.ephemeris_text.proofs.put_state.Goals as goal

pub returns : goal.returns
unfolding state_text
returns c =
    let z = c.before.before in
    let y = z in
    both y.put_three_numbers-p.ensures z.put_three_numbers.ensures
