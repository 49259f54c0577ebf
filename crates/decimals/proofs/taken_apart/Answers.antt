use mathlib.Core.Path.{◌≡◌, sym, ap, ◌∙◌, subst}
use Prim.Native.Nat.{ℕ, ◌-◌, ◌*◌, ◌/◌, ◌%◌, ◌^◌, ◌<◌}
use native.Mathlib.Omega.{arith}
use lib.Pow.{pow_pos}
use borrow.Author.Rules.{rules}
use Rattle.decimals.specs.Parts.{Parts}
use Rattle.decimals.proofs.Parts.{shl, below_one, rest_short, from_one}
use Rattle.decimals.proofs.taken_apart.Tie as tie
use Rattle.decimals.proofs.taken_apart.Lts as lts
use Rattle.decimals.proofs.taken_apart.Reads as reads
use Rattle.decimals.proofs.taken_apart.Goals as goal

pub returns-then-e-lt1023 : goal.returns-then-e-lt1023
returns-then-e-lt1023 c = let a = c.args in below_one a.m a.e c.requires.0 c.requires.1 c.if-e-lt1023.true

module _ (c : (lts.Else1 reads.Pre reads.Post)) where
  abbrev m : ℕ
  m = c.args.m

  abbrev e : ℕ
  e = c.args.e

  d-is : (1 * 2 ^ (1075 - e)) % 18446744073709551616 ≡ 2 ^ (1075 - e)
  d-is = shl (1075 - e) (omega arith)

  s-is : (1 * 2 ^ (e - 1022)) % 18446744073709551616 ≡ 2 ^ (e - 1022)
  s-is = shl (e - 1022) (omega arith)

  positive : 0 < (1 * 2 ^ (1075 - e)) % 18446744073709551616
  positive = subst (λ (z : ℕ). 0 < z) (sym d-is) (pow_pos (1075 - e))

  short : m % 2 ^ (1075 - e) * 2 ^ (e - 1022) < 9007199254740992
  short = rest_short m e c.requires.0 c.if-e-lt1023.false c.requires.2

pub overflow_mul-result : goal.overflow_mul-result
overflow_mul-result c = rw (d-is c, s-is c) (record { fits = omega (arith, short c) })

pub returns : goal.returns
returns c = rw (d-is c, s-is c) (from_one (m c) (e c) c.requires.0 c.if-e-lt1023.false c.requires.2)

pub nonzero_div-result : goal.nonzero_div-result
nonzero_div-result c = positive c

pub nonzero_rem-result : goal.nonzero_rem-result
nonzero_rem-result c = positive c
