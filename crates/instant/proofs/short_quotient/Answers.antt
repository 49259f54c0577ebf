use mathlib.Core.Bool.{false}
use native.Mathlib.Omega.{arith}
use lib.Dec.{le→leb}
use lib.Ieee.{in_float, of_int}
use Rattle.instant.proofs.Once.{once}
use Rattle.instant.proofs.short_quotient.Goals as goal

pub int_to_float-result : goal.int_to_float-result
unfolding in_float of_int
int_to_float-result c = le→leb c.args.n 9007199254740992 (omega arith)

pub int_to_float-result-2 : goal.int_to_float-result-2
unfolding in_float of_int
int_to_float-result-2 c = le→leb c.args.d 9007199254740992 (omega arith)

pub returns : goal.returns
unfolding in_float of_int
returns c = once false c.args.n c.args.d (omega arith) (omega arith) (omega arith)
