use native.Mathlib.Omega.{arith}
use Rattle.std.proofs.lemmas.Bool.Decides.{nat_tests}
use Rattle.columns.specs.Sum.{digit_of}
use Rattle.columns.proofs.digits.weight.Goals as goal

-- a digit
pub returns-in-48-to-57 : goal.returns-in-48-to-57
unfolding digit_of
returns-in-48-to-57 c = grind (arith, nat_tests)

-- below the digits, and above them
pub returns-in_default : goal.returns-in_default
unfolding digit_of
returns-in_default c = grind (arith, nat_tests)

pub returns-in_default-2 : goal.returns-in_default-2
unfolding digit_of
returns-in_default-2 c = grind (arith, nat_tests)
