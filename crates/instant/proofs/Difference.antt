-- The difference of two instants. Assumes nothing.
use mathlib.Core.Path.{◌≡◌, refl, sym, ap, ◌∙◌}
use mathlib.Core.Bool.{Bool, true, false, cond, ◌&&◌}
use Prim.Native.Nat.{ℕ, zero, suc, ◌+◌, ◌-◌, ◌<◌, ◌^◌}
use native.Mathlib.Omega.{arith}
use lib.IntN.{ℤ, pos, negsuc, ◌+ℤ◌, ◌-ℤ◌, +ℤ_comm, +ℤ-neg_ℤ_cancel, -ℤ-+ℤ_cancel}
use lib.Dec.{leb, ltb}
use mir.Syntax.{w64}
use mir.Val.{SFits}
use borrow.Author.Tests.{le-leb, ltb-false}
use Rattle.instant.specs.Calendar.{in_calendar}
use Rattle.instant.specs.Move.{landed, reached}
use Rattle.instant.specs.Since.{since_of}
use Rattle.instant.specs.declared.Microseconds.{Microseconds}
use Rattle.std.specs.Prelude.{Err, None, Ok, Option, Some}
use Rattle.instant.specs.declared.MoveRefusal.TheVariants as move_refusal

-- it is an i64
pub difference_fits : (a b : ℕ) → a < 2 ^ 63 → b < 2 ^ 63 → SFits w64 (pos a -ℤ pos b)
difference_fits a zero h g = record { sfits = omega arith }
difference_fits a (suc b) h g = by (ltb a (suc b)) refl
  where
    by : (t : Bool) → ltb a (suc b) ≡ t → SFits w64 (cond t (negsuc (suc b - suc a)) (pos (a - suc b)))
    by true e = record { sfits = omega arith }
    by false e = record { sfits = omega arith }

-- a + z, where it is an instant of the calendar, is what a move by z reaches
pub reached_sum : (a : ℕ) (z : ℤ) (t : ℕ) → pos a +ℤ z ≡ pos t → in_calendar t ≡ true → reached a z ≡ Ok (record { 0 = t })
unfolding reached landed
reached_sum a (pos n) t e h =
    let s : a + n ≡ t = cc in
    simp (s, h)
reached_sum a (negsuc n) t e h = by (ltb a (suc n)) refl e
  where
    by : (b : Bool) → ltb a (suc n) ≡ b → cond b (negsuc (suc n - suc a)) (pos (a - suc n)) ≡ pos t → cond (leb (suc n) a) (landed (a - suc n)) (Err move_refusal.Outside) ≡ Ok (record { 0 = t })
    by true l e = let x : ◌≡◌ {A = ℕ} 0 1 = cc in absurd (omega arith)
    by false l e =
        let s : a - suc n ≡ t = cc in
        simp (le-leb (suc n) a (ltb-false a (suc n) l), s, h)

-- the epoch and the time since it
pub sum_since : (t e : ℕ) → pos e +ℤ (pos t -ℤ pos e) ≡ pos t
sum_since t e = +ℤ_comm (pos e) (pos t -ℤ pos e) ∙ -ℤ-+ℤ_cancel (pos t) (pos e)

pub since_sum : (t e : ℕ) (z : ℤ) → pos e +ℤ z ≡ pos t → pos t -ℤ pos e ≡ z
since_sum t e z h = ap (λ (y : ℤ). y -ℤ pos e) (sym h ∙ +ℤ_comm (pos e) z) ∙ +ℤ-neg_ℤ_cancel z (pos e)

-- what the tests of a time that is given have shown
pub since_given : (t e : ℕ) (z : ℤ) → since_of t e ≡ Some (record { 0 = z }) → (in_calendar t ≡ true) × (in_calendar e ≡ true) × (pos t -ℤ pos e ≡ z)
unfolding since_of
since_given t e z h = by (in_calendar t) (in_calendar e) h
  where
    by : (a b : Bool) → cond {A = Option Microseconds} (a && b) (Some (record { 0 = pos t -ℤ pos e })) None ≡ Some (record { 0 = z }) → (a ≡ true) × (b ≡ true) × (pos t -ℤ pos e ≡ z)
    by true true h =
        let r : ◌≡◌ {A = Microseconds} (record { 0 = pos t -ℤ pos e }) (record { 0 = z }) = cc in
        (refl, refl, ap (λ (m : Microseconds). m.0) r)
    by true false h = let x : ◌≡◌ {A = ℕ} 0 1 = cc in absurd (omega arith)
    by false b h = let x : ◌≡◌ {A = ℕ} 0 1 = cc in absurd (omega arith)
