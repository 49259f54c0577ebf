use mathlib.Core.Path.{sym}
use Rattle.station_text.specs.Words.{number_of}
use Rattle.station_text.proofs.read_number.Goals as goal

pub returns-then-n : goal.returns-then-n
unfolding number_of
returns-then-n c = let e = c.read_whole-n.ensures in simp (sym e, c.if-n.true)

pub returns : goal.returns
unfolding number_of
returns c = let e = c.read_whole-n.ensures in simp (sym e, c.if-n.false)
