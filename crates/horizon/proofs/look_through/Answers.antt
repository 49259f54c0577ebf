use Rattle.horizon.proofs.look_through.Goals as goal

pub returns : goal.returns
returns c = simp (c.look_in.ensures, c.local_through.ensures)
