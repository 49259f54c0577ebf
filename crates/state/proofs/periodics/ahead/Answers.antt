use lib.Ieee.{round, units, odd, size, span, climb, of_bits, neg}
use lib.Count.{count_trailing_zeros}
use Rattle.state.specs.Ahead.{ahead_of}
use Rattle.state.proofs.periodics.ahead.Goals as goal

pub returns : goal.returns
unfolding ahead_of round units odd size span climb count_trailing_zeros of_bits neg
returns c = simp (c.sqrt-betal.ensures, c.sqrt-rootpl.ensures, c.xke.ensures, c.sqrt-root.ensures)
