-- A row at the front of a room.
use Prim.Native.Nat.{◌+◌, ◌≤◌, ◌<◌}
use mathlib.Core.Path.{◌≡◌, refl, sym, ap, ◌∙◌}
use mathlib.Core.Bool.{Bool, cond}
use mathlib.Core.List.{List, []}
use native.Mathlib.Omega.{arith}
use lib.ListN.{length}
use lib.Seq.{sets}
use lib.Ieee.{Float}
use borrow.Author.Tests.{eq-eqb, ne_eqb, lt-ltb, le-ltb}
use Rattle.sgp4.specs.declared.Row.{Row}
use Rattle.requests.specs.Lists.{state_of, over}
use Rattle.requests.proofs.Filling.{over_sets}
use Rattle.lent_requests.specs.Requests.{row_put}
use Rattle.profile.specs.declared.rows.Asked.{Asked}
use Rattle.profile.specs.Rows.{asked, room_after}

pub row_put_lem : (l l' : List Float) (r : Row) → 6 ≤ length l → r.refusal ≡ 0 → l' ≡ sets l 0 (state_of r) → l' ≡ row_put r l
unfolding row_put
row_put_lem l l' r h z e =
    let room : 0 + 6 ≤ length l = omega arith in
    e ∙ over_sets (state_of r) [] l 0 refl room ∙ sym (ap (λ (t : Bool). cond t (over (state_of r) l) l) (eq-eqb r.refusal 0 z))

pub row_kept : (l : List Float) (r : Row) → (r.refusal ≡ 0 → ⊥) → l ≡ row_put r l
unfolding row_put
row_kept l r d = sym (ap (λ (t : Bool). cond t (over (state_of r) l) l) (ne_eqb r.refusal 0 d))

module _ (r : Row) (l : List Float) where
  pub room_short : length l < 6 → (◌≡◌ {A = Asked} (record { refusal = 17; rounds = 0 }) (asked r (length l))) × (l ≡ room_after r l)
  room_short h = (rw (lt-ltb (length l) 6 h), rw (lt-ltb (length l) 6 h))

  pub room_enough : (q : Row) (l' : List Float) → 6 ≤ length l → q ≡ r → l' ≡ row_put q l
      → (◌≡◌ {A = Asked} (record { refusal = q.refusal; rounds = q.rounds }) (asked r (length l))) × (l' ≡ room_after r l)
  room_enough q l' h e p = (
    rw (le-ltb (length l) 6 h) (ap (λ (z : Row). record { refusal = z.refusal; rounds = z.rounds }) e),
    rw (le-ltb (length l) 6 h) (p ∙ ap (λ z. row_put z l) e),
  )
