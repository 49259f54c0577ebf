use native.Mathlib.Omega.{arith}
use Rattle.text.proofs.Lengths.{decimal_within}
use Rattle.streams.proofs.print_decimal.Goals as goal

pub slice_bounds-print-end : goal.slice_bounds-print-end
slice_bounds-print-end c = omega (arith, (decimal_within c.args.n).at_most, c.put_decimal-k.ensures.counted)
