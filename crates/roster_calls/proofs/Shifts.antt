-- Room made and closed in a lent list: what the library's `copy_within` leaves, and the end filled.
use Rattle.std.proofs.Common.{◌≡◌, ℕ, suc, ◌+◌, ◌-◌, ◌<◌, ◌≤◌, List, ◌++◌, length, take, drop, set, get_or, replicate, ap, sym, ◌∙◌, arith}
use mathlib.Core.List.{append-nil}
use native.Mathlib.Numerals.{add-one}
use lib.ListN.{length-append, length-drop, length-replicate, drop_of_length-le, replicate-append-replicate}
use lib.Seq.{take_all, take_at, drop-cons, append_snoc, set_at, length-take-le}
use Rattle.std.specs.List.{copy_within}
use Rattle.roster.specs.Shift.{opened, moved_down, closed}

module _ {A : Type 0} (l : List A) (at w : ℕ) (fits : at + w ≤ length l) where
  pub up_all : copy_within l at (length l - w) (at + w) ≡ opened at w l
  unfolding opened
  up_all =
      let n : length l - w - at ≡ length l - (at + w) = omega arith in
      let e : length l ≤ at + w + (length l - (at + w)) = omega arith in
      rw (n, drop_of_length-le l {i = at + w + (length l - (at + w))} e) (append-nil _)

  pub down_all : copy_within l (at + w) (length l) at ≡ moved_down at w l
  unfolding moved_down
  down_all =
      let e : at + (length l - (at + w)) ≡ length l - w = omega arith in
      rw (e, take_all (length l - (at + w)) (drop (at + w) l) (rw length-drop (omega arith)))

  -- what was moved down, and its end filled with x, as the part that was lent comes back
  module _ (m : List A) (x : A) (down : m ≡ copy_within l (at + w) (length l) at) (long : length m ≡ length l) where
    abbrev end : List A
    end = take (length m - (length m - w)) (drop (length m - w) m)

    behind_end : length (drop (length m - w) m) ≡ w
    behind_end = length-drop (length m - w) m ∙ (omega arith)

    length_end : length end ≡ w
    length_end = length-take-le (length m - (length m - w)) (drop (length m - w) m) (omega (arith, behind_end)) ∙ (omega arith)

    front : take (length m - w) m ≡ take at l ++ drop (at + w) l
    unfolding moved_down
    front =
        rw (long, down ∙ down_all)
        (take_at (take at l ++ drop (at + w) l) (drop (length l - w) l) (length l - w)
        (length-append (take at l) (drop (at + w) l) ∙ rw (length-take-le at l (omega arith), length-drop) (omega arith)))

    pub closing : (z : List A) (i : ℕ) → z ≡ replicate i x ++ drop i end → length end ≤ i → i ≤ length end
        → take (length m - w) m ++ (z ++ drop (length m - (length m - w)) (drop (length m - w) m)) ≡ take at l ++ drop (at + w) l ++ replicate w x
    closing z i e g h =
        let k : i ≡ w = omega (arith, length_end) in
        let f : z ≡ replicate w x = e ∙ rw (drop_of_length-le end g, k) (append-nil (replicate w x)) in
        rw (front, f, drop_of_length-le (drop (length m - w) m) {i = length m - (length m - w)} (omega (arith, behind_end)))
        (ap (λ (t : List A). take at l ++ drop (at + w) l ++ t) (append-nil (replicate w x)))

-- with zeros, as a roster and its row have it
pub closes : (l m : List ℕ) (at w : ℕ) → m ≡ take at l ++ drop (at + w) l ++ replicate w 0 → m ≡ closed at w l
unfolding closed
closes l m at w e = e

-- one element more of those that are filled
pub fill_more : {A : Type 0} (i : ℕ) (x : A) (d : List A) → i < length d → set (replicate i x ++ drop i d) i x ≡ replicate (i + 1) x ++ drop (i + 1) d
fill_more {A = A} i x d h =
    rw (add-one, drop-cons d i x h)
    (set_at (replicate i x) (get_or d i x) (drop (suc i) d) x i (length-replicate i x)
    ∙ sym (append_snoc (replicate i x) x (drop (suc i) d))
    ∙ ap (λ (t : List A). t ++ drop (suc i) d) (replicate-append-replicate i 1 x ∙ ap (λ (k : ℕ). replicate k x) (add-one i)))
