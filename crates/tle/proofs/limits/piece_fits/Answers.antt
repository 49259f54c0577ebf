use Rattle.tle.proofs.limits.piece_fits.Goals as goal

pub returns : goal.returns
returns c = rw (c.is_letter-4.ensures, c.is_letter-3.ensures, c.is_letter-2.ensures, c.is_letter.ensures)
