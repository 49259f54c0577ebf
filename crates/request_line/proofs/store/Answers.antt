use mir.Syntax.{w64}
use mir.ValLaws.{to_z-of_z}
use Rattle.request_line.proofs.Signs.{signed_fits}
use Rattle.request_line.specs.Times.{stored, limit}
use Prim.Native.Nat.{min}
use lib.Seq.{set_out}
use borrow.Author.Tests.{eq-eqb, ne_eqb}
use native.Mathlib.Omega.{arith}
use mathlib.Core.Path.{◌≡◌, sym}
use Rattle.request_line.proofs.store.Goals as goal

pub returns-then-n-row : goal.returns-then-n-row
unfolding stored
returns-then-n-row c =
    let i = c.before.before in
    let s = i in
    let t = s.args.t in
    let e : min t.value limit ≡ t.value = omega (arith, s.requires) in
    simp (eq-eqb _ _ i.if-b-eq32.true, i.if-t.true, c.with_sign.ensures, e, to_z-of_z w64 _ (signed_fits t.minus t.value s.requires))

pub returns-else-n-row : goal.returns-else-n-row
unfolding stored
returns-else-n-row c =
    let i = c in
    simp (eq-eqb _ _ i.if-b-eq32.true, i.if-t.true) (sym (set_out i.args.row.now _ _ c.if-n-row.false))

pub returns-else-t : goal.returns-else-t
unfolding stored
returns-else-t c = simp (eq-eqb _ _ c.if-b-eq32.true, c.if-t.false)

pub returns-else-b-eq32 : goal.returns-else-b-eq32
unfolding stored
returns-else-b-eq32 c = simp (ne_eqb _ _ c.if-b-eq32.false)
