use Rattle.text.proofs.Pieces.{both}
use Rattle.ephemeris_text.proofs.put_number.Goals as goal

pub returns : goal.returns
returns c =
    let z = c.before.before in
    let y = z in
    both y.put_byte-p.ensures z.put_fixed.ensures
