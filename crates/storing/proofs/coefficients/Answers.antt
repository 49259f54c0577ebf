use mathlib.Core.Path.{sym, ap}
use lib.Ieee.{of_bits}
use Rattle.storage.specs.Storage.{coefficients}
use Rattle.storing.proofs.coefficients.Goals as goal

pub returns-in-None : goal.returns-in-None
unfolding of_bits
returns-in-None c = sym (ap coefficients c.in-None.is)

pub returns-in-OneDay : goal.returns-in-OneDay
unfolding of_bits
returns-in-OneDay c = sym (ap coefficients c.in-OneDay.is)

pub returns-in-HalfDay : goal.returns-in-HalfDay
unfolding of_bits
returns-in-HalfDay c = sym (ap coefficients c.in-HalfDay.is)
