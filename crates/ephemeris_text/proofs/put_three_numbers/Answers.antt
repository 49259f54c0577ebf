use Rattle.text.proofs.Pieces.{both}
use Rattle.ephemeris_text.specs.Rows.{three_numbers}
use Rattle.ephemeris_text.proofs.put_three_numbers.Goals as goal

pub returns : goal.returns
unfolding three_numbers
returns c =
    let z = c.before.before in
    let y = z.before.before.before.before in
    let x = y in
    both x.put_number-p.ensures (both y.put_number-p-2.ensures z.put_number.ensures)
