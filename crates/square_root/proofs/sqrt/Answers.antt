use mathlib.Core.Path.{◌≡◌, sym, subst}
use Prim.Native.Nat.{◌-◌, ◌%◌, ◌≤◌}
use native.Mathlib.Omega.{arith}
use lib.Dec.{T}
use lib.Count.{count_leading_zeros}
use lib.Ieee.{binary64, fits, of_bits, to_bits, div}
use borrow.Author.Rules.{rules}
use Rattle.floats.proofs.Patterns.{H, above_is_number, below_is_number}
use Rattle.square_root.proofs.RootPatterns.{Digits, normal, subnormal, zeros_enough, packed_root, at_top, at_zero, elsewhere}
use Rattle.square_root.proofs.sqrt.Tie as tie
use Rattle.square_root.proofs.sqrt.Lts as lts
use Rattle.square_root.proofs.sqrt.Reads as reads
use Rattle.square_root.proofs.sqrt.Goals as goal

-- what owning an f64 tells: the format holds it
held : (c : (lts.Start tie.the-claims reads.Pre reads.Post tie.handed_clauses)) → T (fits binary64 c.args.x)
held c = subst T (sym c.well_formed.0.1) tt

pub float_to_bits-b : goal.float_to_bits-b
unfolding of_bits
float_to_bits-b c = above_is_number c.before.args.x c.if-x.true

-- ---- a subnormal number
enough : (c : goal.Then-e-eq0) → (11 ≤ count_leading_zeros 64 (to_bits binary64 c.before.before.before.args.x % H)) × (count_leading_zeros 64 (to_bits binary64 c.before.before.before.args.x % H) - 11 ≤ 52)
unfolding of_bits
enough c = zeros_enough c.before.before.before.args.x (held c.before.before.before) c.before.before.if-x.true c.if-e-eq0.true

pub overflow_sub-z : goal.overflow_sub-z
overflow_sub-z c = (enough c).0

pub overflow_cast-z : goal.overflow_cast-z
overflow_cast-z c = let z = enough c in omega arith

pub overflow_shl-f : goal.overflow_shl-f
overflow_shl-f c = let z = enough c in omega arith

pub overflow_sub-z-then-e-eq0 : goal.overflow_sub-z-then-e-eq0
overflow_sub-z-then-e-eq0 c = let z = enough c in omega arith

pub packed-requires : goal.packed-requires
unfolding of_bits
packed-requires c =
    let d = subnormal c.before.before.before.args.x (held c.before.before.before) c.before.before.if-x.true c.if-e-eq0.true in
    (d.lo, d.hi, d.few)

pub float_from_bits-result : goal.float_from_bits-result
float_from_bits-result c = let g = c.packed.ensures.upper_bound in below_is_number c.packed.result (omega arith)

pub returns-then-e-eq0 : goal.returns-then-e-eq0
unfolding of_bits
returns-then-e-eq0 c =
    packed_root c.before.before.before.before.args.x _ _
    (subnormal c.before.before.before.before.args.x (held c.before.before.before.before) c.before.before.before.if-x.true c.before.if-e-eq0.true)
    c.packed.result c.packed.ensures.value

-- ---- a normal number
pub float_from_bits-result-then-b-lt9218868437227405312 : goal.float_from_bits-result-then-b-lt9218868437227405312
float_from_bits-result-then-b-lt9218868437227405312 c =
    let g = c.packed-then-b-lt9218868437227405312.ensures.upper_bound in
    let h = c.before.before.if-b-lt9218868437227405312.true in
    below_is_number c.packed-then-b-lt9218868437227405312.result (omega arith)

pub returns-then-b-lt9218868437227405312 : goal.returns-then-b-lt9218868437227405312
returns-then-b-lt9218868437227405312 c =
    packed_root c.before.before.before.before.args.x _ _
    (normal c.before.before.before.before.args.x (held c.before.before.before.before) c.before.before.if-b-lt9218868437227405312.true c.before.if-e-eq0.false)
    c.packed-then-b-lt9218868437227405312.result c.packed-then-b-lt9218868437227405312.ensures.value

-- ---- the infinity, a zero, and the rest
pub returns-then-x : goal.returns-then-x
unfolding of_bits
returns-then-x c =
    at_top c.before.before.args.x (held c.before.before) c.before.if-x.true c.if-b-lt9218868437227405312.false

pub returns-then-x-2 : goal.returns-then-x-2
unfolding of_bits
returns-then-x-2 c = at_zero c.before.before.args.x c.if-x-2.true

pub returns : goal.returns
unfolding of_bits div
returns c = elsewhere c.before.before.args.x c.before.if-x.false c.if-x-2.false
