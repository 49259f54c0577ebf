use mathlib.Core.Path.{◌≡◌, refl}
use Prim.Native.Nat.{◌≤◌}
use lib.ListN.{length}
use Rattle.tle_writer.proofs.Overs.{and}
use native.Mathlib.Omega.{arith}
use Rattle.tle.specs.declared.Designator.TheVariants.{Blank}
use Rattle.tle_writer.specs.Field.{place, lead, designator}
use Rattle.tle_writer.proofs.fields.put_designator.Goals as goal

pub returns-in-Blank : goal.returns-in-Blank
unfolding designator lead place
returns-in-Blank c =
    let e : c.args.d ≡ Blank = cc in
    rw e c.put_at.ensures

pub returns-in-Piece : goal.returns-in-Piece
unfolding designator
returns-in-Piece c =
    let a = c.args in
    let h : a.at ≤ length a.line = omega arith in
    rw c.in-Piece.is
    (and refl h (and refl h (and refl h c.put_at-l.ensures c.put_byte-l.ensures) c.put_byte-l-in-Piece.ensures) c.put_byte.ensures)
