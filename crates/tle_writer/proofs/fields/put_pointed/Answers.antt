use mathlib.Core.Path.{◌≡◌}
use Prim.Native.Nat.{◌≤◌}
use lib.ListN.{length}
use Rattle.tle_writer.proofs.Overs.{and}
use native.Mathlib.Omega.{arith}
use Prim.Native.Nat.{◌+◌}
use native.Mathlib.Nat.{one-le-pow}
use Rattle.tle_writer.proofs.fields.put_pointed.Goals as goal

pub nonzero_div-n : goal.nonzero_div-n
nonzero_div-n c = rw c.requires.1 (omega (arith, one-le-pow c.args.p 10 (omega arith)))

pub nonzero_rem-n : goal.nonzero_rem-n
nonzero_rem-n c = rw c.requires.1 (omega (arith, one-le-pow c.args.p 10 (omega arith)))

pub returns : goal.returns
returns c =
    let a = c.args in
    let h : a.at ≤ length a.line = omega arith in
    let f : a.at + a.w + 1 ≡ a.at + (a.w + 1) = omega arith in
    let g : a.at + a.w + 2 ≡ a.at + (a.w + 1 + 1) = omega arith in
    rw (← c.requires.1) (and g h (and f h c.put_right-l.ensures c.put_byte-l.ensures) c.put_at.ensures)
