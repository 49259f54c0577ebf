use mathlib.Core.Path.{◌≡◌, refl, ap, ◌∙◌}
use Prim.Native.Nat.{◌≤◌}
use lib.ListN.{length}
use Rattle.tle_writer.proofs.Overs.{and}
use native.Mathlib.Omega.{arith}
use mir.Syntax.{w64}
use mir.Val.{SFits}
use mir.ValLaws.{to_z-of_z}
use lib.IntN.{nat_abs}
use Rattle.tle_writer.specs.Field.{sign, exponent_sign}
use Rattle.tle_writer.proofs.fields.put_scaled.Tie as tie
use Rattle.tle_writer.proofs.fields.put_scaled.Lts as lts
use Rattle.tle_writer.proofs.fields.put_scaled.Reads as reads
use Rattle.tle_writer.proofs.fields.put_scaled.Goals as goal

mantissa : (c : (lts.After-struct_told tie.the-claims reads.Pre reads.Post)) → SFits w64 c.args.s.mantissa
mantissa c = record { sfits = omega arith }

exponent : (c : (lts.After-struct_told tie.the-claims reads.Pre reads.Post)) → SFits w64 c.args.s.exponent
exponent c = record { sfits = omega arith }

pub returns : goal.returns
returns c =
    let t = c.before.before.before.before.before.before.before.before.before in
    let a = c.args in
    let h : a.at ≤ length a.line = omega arith in
    let m = to_z-of_z w64 a.s.mantissa (mantissa t) in
    let e = to_z-of_z w64 a.s.exponent (exponent t) in
    let m1 : c.sign_of.result ≡ sign a.s.mantissa = c.sign_of.ensures ∙ ap sign m in
    let m2 : c.magnitude.result ≡ nat_abs a.s.mantissa = c.magnitude.ensures ∙ ap nat_abs m in
    let e1 : c.exponent_sign_of.result ≡ exponent_sign a.s.exponent = c.exponent_sign_of.ensures ∙ ap exponent_sign e in
    let e2 : c.magnitude-2.result ≡ nat_abs a.s.exponent = c.magnitude-2.ensures ∙ ap nat_abs e in
    rw (← m1, ← m2, ← e1, ← e2)
    (and refl h (and refl h (and refl h c.put_byte-l.ensures c.put_at-l.ensures) c.put_byte-l-2.ensures) c.put_at.ensures)
