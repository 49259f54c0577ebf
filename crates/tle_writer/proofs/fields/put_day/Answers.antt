use mathlib.Core.Path.{refl}
use Prim.Native.Nat.{◌≤◌}
use lib.ListN.{length}
use Rattle.tle_writer.proofs.Overs.{and}
use native.Mathlib.Omega.{arith}
use Rattle.tle_writer.proofs.fields.put_day.Goals as goal

pub returns : goal.returns
returns c =
    let a = c.args in
    let h : a.at ≤ length a.line = omega arith in
    and refl h (and refl h c.put_at-l.ensures c.put_byte-l.ensures) c.put_at.ensures
