-- Whether a script has room: what the tests say, and what a run says of memory.
use mathlib.Core.Path.{◌≡◌, refl, sym, subst}
use mathlib.Core.Bool.{Bool, true, false, ◌&&◌}
use mathlib.Core.List.{List}
use Prim.Native.Nat.{ℕ, ◌/◌, ◌≤◌}
use lib.ListN.{length}
use lib.Dec.{leb}
use lib.IntN.{ℤ}
use lib.Ieee.{Float}
use borrow.Author.Tests.{leb-true}
use Rattle.opening.specs.declared.opening.Satellite.{Satellite}
use Rattle.script_room.specs.Room.{needed, roomy, room_for, calls_for, suffices}
use Rattle.script_steps.specs.Steps.{script, Left, Runs}

absurd : {B : Type 0} → ⊥ → B
absurd = elim [ ]

abbrev No : Bool → Type 0
No false = Unit {0}
No true = ⊥

module _ (ns : List ℕ) (ts : List ℤ) (ps : List Float) (qs a : List ℕ) (b : List Float) (c f l d e : List ℕ) where
  abbrev Rows : Bool
  Rows = room_for ns (length ts) (length a) (length b) (length c) (length d)

  abbrev Calls : Bool
  Calls = calls_for (length ns) (length ps) (length qs) (length e)

  abbrev All : Bool
  All = suffices ns (length ts) (length a) (length b) (length c) (length d) (length ps) (length qs) (length e)

  pub runs_short : (s : Satellite) → All ≡ false → Runs s ns ts ps qs a b c f l d e false a b c f l d e
  runs_short s h = record {
    answer = sym h;
    unrun = λ u. (refl, refl, refl, refl, refl, refl, refl);
    ran = λ u. absurd (subst No u tt);
  }

  pub runs_done : (s : Satellite) (a' : List ℕ) (b' : List Float) (c' f' l' d' e' : List ℕ) → All ≡ true
      → Left s (script s ns 0 ts ps qs (length a) (length b) (length c) (length f) (length l)) a b c f l d e a' b' c' f' l' d' e' → Runs s ns ts ps qs a b c f l d e true a' b' c' f' l' d' e'
  runs_done s a' b' c' f' l' d' e' h x = record {
    answer = sym h;
    unrun = λ u. absurd (subst No (sym u) tt);
    ran = λ u. x;
  }

  -- the rooms suffice where all tests pass
  and_left : (p q : Bool) → p && q ≡ true → p ≡ true
  and_left true q h = refl
  and_left false q h = h

  and_right : (p q : Bool) → p && q ≡ true → q ≡ true
  and_right true q h = h
  and_right false q h = absurd (subst No h tt)

  enough_rows : Rows ≡ true → (needed ns ≤ length ts) × ((roomy ns (length a) ≡ true) × ((roomy ns (length b / 6) ≡ true) × ((roomy ns (length c) ≡ true) × (length ns ≤ length d))))
  unfolding room_for
  enough_rows e =
      let n = needed ns in
      let p1 = leb n (length ts) in
      let p2 = roomy ns (length a) in
      let p3 = roomy ns (length b / 6) in
      let p4 = roomy ns (length c) in
      let p5 = leb (length ns) (length d) in
      let e4 : p1 && p2 && p3 && p4 ≡ true = and_left (p1 && p2 && p3 && p4) p5 e in
      let e3 : p1 && p2 && p3 ≡ true = and_left (p1 && p2 && p3) p4 e4 in
      let e2 : p1 && p2 ≡ true = and_left (p1 && p2) p3 e3 in (
        leb-true n (length ts) (and_left p1 p2 e2),
        (
          and_right p1 p2 e2,
          (
            and_right (p1 && p2) p3 e3,
            (and_right (p1 && p2 && p3) p4 e4, leb-true (length ns) (length d) (and_right (p1 && p2 && p3 && p4) p5 e)),
          ),
        ),
      )

  enough_calls : Calls ≡ true → (length ns ≤ length ps / 3) × ((length ns ≤ length qs / 3) × (length ns ≤ length e))
  unfolding calls_for
  enough_calls h =
      let p1 = leb (length ns) (length ps / 3) in
      let p2 = leb (length ns) (length qs / 3) in
      let p3 = leb (length ns) (length e) in
      let h2 : p1 && p2 ≡ true = and_left (p1 && p2) p3 h in (
        leb-true (length ns) (length ps / 3) (and_left p1 p2 h2),
        (leb-true (length ns) (length qs / 3) (and_right p1 p2 h2), leb-true (length ns) (length e) (and_right (p1 && p2) p3 h)),
      )

  pub enough : All ≡ true
      → (needed ns ≤ length ts) × ((roomy ns (length a) ≡ true) × ((roomy ns (length b / 6) ≡ true) × ((roomy ns (length c) ≡ true) × ((length ns ≤ length d) × ((length ns ≤ length ps / 3) × ((length ns ≤ length qs / 3) × (length ns ≤ length e)))))))
  unfolding suffices
  enough h =
      let r = enough_rows (and_left Rows Calls h) in
      (r.0, (r.1.0, (r.1.1.0, (r.1.1.1.0, (r.1.1.1.1, enough_calls (and_right Rows Calls h))))))
