-- One of two texts put.
use Prim.Native.Nat.{ℕ}
use mathlib.Core.Path.{◌≡◌, sym, subst}
use mathlib.Core.Bool.{Bool, true, false, cond}
use mathlib.Core.List.{List}
use Rattle.text.specs.Output.{Put}

pub first_put : (b : Bool) (x y out after : List ℕ) (at n : ℕ) → b ≡ true → Put out at x after n → Put out at (cond b x y) after n
first_put b x y out after at n h p = subst (λ z. Put out at (cond z x y) after n) (sym h) p

pub second_put : (b : Bool) (x y out after : List ℕ) (at n : ℕ) → b ≡ false → Put out at y after n → Put out at (cond b x y) after n
second_put b x y out after at n h p = subst (λ z. Put out at (cond z x y) after n) (sym h) p
