-- A row at the front of a room.
use Prim.Native.Nat.{◌≤◌}
use mathlib.Core.Path.{◌≡◌, refl, sym, ap, ◌∙◌}
use mathlib.Core.Bool.{Bool, cond}
use mathlib.Core.List.{List, [], ◌∷◌}
use native.Mathlib.Omega.{arith}
use lib.ListN.{length, set}
use lib.Ieee.{Float}
use borrow.Author.Tests.{eq-eqb, ne_eqb}
use Rattle.sgp4.specs.declared.Row.{Row}
use Rattle.requests.specs.Lists.{state_of, over}
use Rattle.lent_requests.specs.Requests.{row_put}

absurd : {B : Type 0} → ⊥ → B
absurd = elim [ ]

six : (l : List Float) (r : Row) → 6 ≤ length l
    → set (set (set (set (set (set l 0 r.x) 1 r.y) 2 r.z) 3 r.vx) 4 r.vy) 5 r.vz ≡ over (state_of r) l
six [] r h = absurd (omega arith)
six (a ∷ []) r h = absurd (omega arith)
six (a ∷ b ∷ []) r h = absurd (omega arith)
six (a ∷ b ∷ c ∷ []) r h = absurd (omega arith)
six (a ∷ b ∷ c ∷ d ∷ []) r h = absurd (omega arith)
six (a ∷ b ∷ c ∷ d ∷ e ∷ []) r h = absurd (omega arith)
six (a ∷ b ∷ c ∷ d ∷ e ∷ f ∷ l) r h = refl

pub row_put_lem : (l : List Float) (r : Row) → 6 ≤ length l → r.refusal ≡ 0
    → set (set (set (set (set (set l 0 r.x) 1 r.y) 2 r.z) 3 r.vx) 4 r.vy) 5 r.vz ≡ row_put r l
unfolding row_put
row_put_lem l r h e = six l r h ∙ sym (ap (λ (t : Bool). cond t (over (state_of r) l) l) (eq-eqb r.refusal 0 e))

pub row_kept : (l : List Float) (r : Row) → (r.refusal ≡ 0 → ⊥) → l ≡ row_put r l
unfolding row_put
row_kept l r d = sym (ap (λ (t : Bool). cond t (over (state_of r) l) l) (ne_eqb r.refusal 0 d))
