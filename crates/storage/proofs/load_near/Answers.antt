use native.Mathlib.Omega.{arith}
use Prim.Native.Nat.{ℕ, ◌≤◌}
use mathlib.Core.Path.{◌≡◌, sym, ap, ◌∙◌}
use mathlib.Core.Bool.{Bool, cond, not}
use mathlib.Core.List.{List}
use lib.Dec.{eqb}
use lib.ListN.{length, get_or}
use lib.Ieee.{Float}
use Rattle.satellite.specs.declared.NearEarth.{NearEarth}
use Rattle.std.specs.Prelude.{Err, Ok}
use Rattle.storage.specs.declared.NearRefusal.TheVariants as unloaded
use Rattle.storage.specs.Storage.{near_earth_at}
use Rattle.storage.specs.Near.{near_short, near_kind, near_loading_of}
use Rattle.storage.proofs.Short.{enough}
use borrow.Author.Tests.{lt-ltb, le-ltb, eq-eqb, ne_eqb}
use Rattle.storage.proofs.load_near.Goals as goal

loads : (ns : List Float) (ms : List ℕ) (n : NearEarth) → 36 ≤ length ns → 6 ≤ length ms → get_or ms 3 0 ≡ 0 → n ≡ near_earth_at ns (not (eqb (get_or ms 2 0) 0))
    → Ok n ≡ near_loading_of ns ms
unfolding near_loading_of
loads ns ms n h k z e =
    let near = Ok (near_earth_at ns (not (eqb (get_or ms 2 0) 0))) in
    ap Ok e
    ∙ sym (ap (λ (b : Bool). cond b (Err unloaded.RoomTooShort) (cond (near_kind ms) near (Err unloaded.DeepSpace))) (enough (length ns) (length ms) h k) ∙ ap (λ (b : Bool). cond b near (Err unloaded.DeepSpace)) (eq-eqb (get_or ms 3 0) 0 z))

pub returns-then-numbers-lt36 : goal.returns-then-numbers-lt36
unfolding near_loading_of near_short
returns-then-numbers-lt36 c = simp (lt-ltb _ _ c.if-numbers-lt36.true)

pub returns-then-marks-lt6 : goal.returns-then-marks-lt6
unfolding near_loading_of near_short
returns-then-marks-lt6 c = simp (le-ltb _ _ c.if-numbers-lt36.false, lt-ltb _ _ c.if-marks-lt6.true)

pub returns-then-marks-ne0 : goal.returns-then-marks-ne0
unfolding near_loading_of near_short
returns-then-marks-ne0 c =
    simp (le-ltb _ _ c.if-numbers-lt36.false, le-ltb _ _ c.if-marks-lt6.false, ne_eqb (get_or c.args.marks.now 3 0) 0 (λ z. omega arith))

pub returns : goal.returns
returns c =
    loads _ _ _ c.if-numbers-lt36.false c.if-marks-lt6.false (omega arith) c.near_earth_at.ensures
