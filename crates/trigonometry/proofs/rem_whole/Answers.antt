use mathlib.Core.Path.{◌≡◌, sym, subst}
use mathlib.Core.Bool.{false}
use Prim.Native.Nat.{◌+◌, ◌-◌, ◌*◌, ◌/◌, ◌%◌, ◌^◌, ◌≤◌}
use native.Mathlib.Omega.{arith}
use lib.Dec.{T, le→leb}
use lib.Ieee.{fin, binary64, fits, in_float, div, le, to_bits}
use lib.Ieee.Positive.{positive}
use lib.IntN.{negsuc}
use borrow.Author.Rules.{rules}
use Rattle.floats.proofs.Literals.{literal}
use Rattle.floats.proofs.Patterns.{H, above_is_number, positive_above}
use Rattle.trigonometry.proofs.Turns.{Turned, number_above, no_number, turned_digits, quotient, below_turn}
use Rattle.trigonometry.proofs.rem_whole.Tie as tie
use Rattle.trigonometry.proofs.rem_whole.Lts as lts
use Rattle.trigonometry.proofs.rem_whole.Reads as reads
use Rattle.trigonometry.proofs.rem_whole.Goals as goal

held : (c : (lts.Start tie.the-claims reads.Pre reads.Post)) → T (fits binary64 c.args.x)
held c = subst T (sym c.well_formed.0.1) tt

-- x is positive, and at least two pi
above : (c : goal.Then-x) → T (positive c.before.args.x) × T (le (fin false 884279719003555 (negsuc 46)) c.before.args.x)
unfolding div literal
above c = number_above c.before.args.x c.before.requires c.if-x.true

known : (c : goal.Then-x) → Turned c.before.args.x
known c = turned_digits c.before.args.x (held c.before) (above c).0 (above c).1

pub float_to_bits-b : goal.float_to_bits-b
float_to_bits-b c = above_is_number c.before.args.x (positive_above c.before.args.x (above c).0)

pub int_to_float-result : goal.int_to_float-result
unfolding in_float
int_to_float-result c =
    let x = c.before.before.before.args.x in
    let l = below_turn ((to_bits binary64 x % H + H) * 2 ^ (to_bits binary64 x / H - 1025)) in
    let e = c.before.rem_digits-r.ensures in
    let h : c.before.rem_digits-r.result ≤ 9007199254740992 = omega arith in
    le→leb _ _ h

pub returns-then-x : goal.returns-then-x
unfolding literal
returns-then-x c =
    quotient c.before.before.before.args.x _ c.before.rem_digits-r.result (known c.before.before).value c.before.rem_digits-r.ensures

pub returns : goal.returns
unfolding div literal
returns c = no_number c.before.args.x c.before.requires c.if-x.false

pub overflow_sub-b : goal.overflow_sub-b
overflow_sub-b c = (known c).low
