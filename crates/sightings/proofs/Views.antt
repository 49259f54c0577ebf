-- A row that is refused or not, and a time that there is or is not.
use Prim.Native.Nat.{ℕ}
use mathlib.Core.Path.{◌≡◌, sym, ap}
use mathlib.Core.Bool.{cond}
use lib.Dec.{eqb}
use borrow.Author.Tests.{eq-eqb, ne_eqb}

pub row_refused : {A : Type 0} (n : ℕ) (x y : A) → (n ≡ 0 → ⊥) → y ≡ cond (eqb n 0) x y
row_refused n x y h = sym (ap (λ b. cond b x y) (ne_eqb n 0 h))

pub row_answered : {A : Type 0} (n : ℕ) (x y : A) → n ≡ 0 → x ≡ cond (eqb n 0) x y
row_answered n x y h = sym (ap (λ b. cond b x y) (eq-eqb n 0 h))
