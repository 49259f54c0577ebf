use Rattle.std.proofs.Common.{ℕ, ◌%◌, ◌≤◌, not, T, sym, subst, Bool}
use lib.Arith.{le→nltb}
use lib.Ieee.{binary64, nan_bits}
use lib.Ieee.Bits.{nan_bits_above}
use Rattle.test_elementary.proofs.words.read_number.Goals as goal

-- a pattern that is not above the infinity's is no NaN's, whatever its sign
is_number : (b : ℕ) → b % 0x8000_0000_0000_0000 ≤ 0x7ff0_0000_0000_0000 → T (not (nan_bits binary64 b))
is_number b h = subst (λ (z : Bool). T (not z)) (sym (nan_bits_above binary64 b)) (le→nltb 0x7ff0_0000_0000_0000 (b % 0x8000_0000_0000_0000) h)

pub float_from_bits-result : goal.float_from_bits-result
float_from_bits-result c = is_number _ c.if-bits-gt9218868437227405312.false
