use Rattle.profile.specs.Opening.{open_read_of}
use Rattle.profile.proofs.opener.open_read.Goals as goal

pub returns : goal.returns
unfolding open_read_of
returns c = simp (c.dated.ensures, c.epoch_instant.ensures)
