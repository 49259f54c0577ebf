use Prim.Native.Nat.{ℕ}
use mathlib.Core.Path.{◌≡◌, sym, ap, ◌∙◌}
use native.Mathlib.Omega.{arith}
use lib.IntN.{ℤ}
use mir.Syntax.{w64}
use mir.Facts.{to_z_pos}
use borrow.Author.Tests.{lt-ltb, le-ltb, le-leb, lt-leb}
use Rattle.instant.specs.Move.{move_of}
use Rattle.std.specs.Prelude.{Option, Result}
use Rattle.instant.specs.declared.Instant.{Instant}
use Rattle.instant.specs.declared.MoveRefusal.{MoveRefusal}
use Rattle.lent_instants.specs.Instants.{later, instant_of}
use Rattle.lent_instants.proofs.instant_of.Goals as goal

same_span : (t : ℕ) {y z : ℤ} {r : (Result Instant MoveRefusal)} → y ≡ z → r ≡ move_of t y → r ≡ move_of t z
same_span t e p = p ∙ ap (λ (z : ℤ). move_of t z) e

pub returns-then-day-gt366 : goal.returns-then-day-gt366
unfolding instant_of
returns-then-day-gt366 c = simp (lt-ltb _ _ c.if-day-gt366.true)

pub returns-then-micros-ge86400000000 : goal.returns-then-micros-ge86400000000
unfolding instant_of
returns-then-micros-ge86400000000 c = simp (le-ltb _ _ c.if-day-gt366.false, le-leb _ _ c.if-micros-ge86400000000.true)

pub returns-in-Some : goal.returns-in-Some
unfolding instant_of
returns-in-Some c =
    let a = c.args in
    let e = sym c.epoch_instant.ensures ∙ c.in-Some.is in
    simp (le-ltb _ _ c.if-day-gt366.false, lt-leb _ _ c.if-micros-ge86400000000.false)
    (same_span _ (to_z_pos w64 {n = a.micros} (omega arith)) c.move_by.ensures ∙ sym (ap (λ (x : Option Instant). later x a.micros) e))

pub returns-in-None : goal.returns-in-None
unfolding instant_of
returns-in-None c =
    let a = c.args in
    let e = sym c.epoch_instant.ensures ∙ c.in-None.is in
    simp (le-ltb _ _ c.if-day-gt366.false, lt-leb _ _ c.if-micros-ge86400000000.false) (sym (ap (λ (x : Option Instant). later x a.micros) e))
