use native.Mathlib.Nat.{one-le-pow, pow-le-pow_right, zero-lt-suc}
use native.Mathlib.Omega.{arith}
use Rattle.instant.proofs.power_of_ten.Goals as goal

pub returns-clause-lower_bound : goal.returns-clause-lower_bound
returns-clause-lower_bound c =
    omega (arith, one-le-pow c.args.k 10 (zero-lt-suc 9), pow-le-pow_right {n = 10} (zero-lt-suc 9) {i = c.args.k} {j = 15} c.requires)
