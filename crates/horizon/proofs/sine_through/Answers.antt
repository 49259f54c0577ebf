use Rattle.horizon.proofs.sine_through.Goals as goal

pub returns : goal.returns
returns c = simp (c.sine_in.ensures, c.local_through.ensures)
