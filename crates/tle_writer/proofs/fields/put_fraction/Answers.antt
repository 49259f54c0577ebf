use mathlib.Core.Path.{◌≡◌, refl, ap, ◌∙◌}
use Prim.Native.Nat.{◌≤◌}
use lib.ListN.{length}
use Rattle.tle_writer.proofs.Overs.{and}
use native.Mathlib.Omega.{arith}
use mir.Syntax.{w64}
use mir.ValLaws.{to_z-of_z}
use lib.IntN.{nat_abs}
use Rattle.tle_writer.specs.Field.{sign}
use Rattle.tle_writer.proofs.fields.put_fraction.Goals as goal

pub returns : goal.returns
returns c =
    let a = c.args in
    let h : a.at ≤ length a.line = omega arith in
    let x = to_z-of_z w64 a.x c.ranges.x in
    let e : c.sign_of.result ≡ sign a.x = c.sign_of.ensures ∙ ap sign x in
    let m : c.magnitude.result ≡ nat_abs a.x = c.magnitude.ensures ∙ ap nat_abs x in
    rw (← e, ← m) (and refl h (and refl h c.put_byte-l.ensures c.put_byte-l-2.ensures) c.put_at.ensures)
