-- One turn of the loops that show bytes and repeat one; the front of a line, however short the line is.
use Prim.Native.Nat.{ℕ, ◌+◌, ◌-◌, ◌<◌, ◌≤◌, min}
use mathlib.Core.Path.{◌≡◌, refl, sym, ap, ◌∙◌}
use mathlib.Core.List.{List, [], ◌∷◌, map, map-append}
use native.Mathlib.Omega.{arith}
use native.Mathlib.Numerals.{add-one}
use lib.ListN.{length, drop, take, get_or, replicate, replicate-append-replicate, drop_of_length-le, length-drop}
use lib.Seq.{take-suc, take_all}
use lib.Dec.{leb}
use mathlib.Core.Bool.{Bool, true, false}
use borrow.Author.Tests.{leb-true, leb-false}
use native.Mathlib.Nat.{min-eq_left, min-eq_right}
use Rattle.text.specs.Output.{Put}
use Rattle.text.proofs.Pieces.{both, same}
use Rattle.marked_line.specs.Marked.{visible}

-- one byte more of a line, as it is shown
pub one_more : {o o' o'' : List ℕ} {a b d v : ℕ} (s : List ℕ) (i : ℕ) → i < length s → v ≡ visible (get_or s i 0)
    → Put o a (map visible (take i s)) o' b → Put o' b (v ∷ []) o'' d → Put o a (map visible (take (i + 1) s)) o'' d
one_more s i h e p q =
    rw (add-one, take-suc s i 0 h, map-append visible (take i s) (get_or s i 0 ∷ []))
    (both p (same (ap (λ x. x ∷ []) e) q))

-- one repetition more
pub again : {o o' o'' : List ℕ} {a b d : ℕ} (x i : ℕ) → Put o a (replicate i x) o' b → Put o' b (x ∷ []) o'' d → Put o a (replicate (i + 1) x) o'' d
again x i p q = same (replicate-append-replicate i 1 x) (both p q)

take_by : (n : ℕ) (s : List ℕ) (b : Bool) → leb n (length s) ≡ b → take (min n (length s)) s ≡ take n s
take_by n s true e = rw (min-eq_left {n = n} {m = length s} (leb-true n (length s) e))
take_by n s false e =
    let g : length s ≤ n = omega (arith, leb-false n (length s) e) in
    rw (min-eq_right {n = length s} {m = n} g) (take_all (length s) s (omega arith) ∙ sym (take_all n s g))

-- no more is taken than there is
pub take_least : (n : ℕ) (s : List ℕ) → take (min n (length s)) s ≡ take n s
take_least n s = take_by n s (leb n (length s)) refl

drop_by : (n : ℕ) (s : List ℕ) (b : Bool) → leb n (length s) ≡ b → drop (min n (length s)) s ≡ drop n s
drop_by n s true e = rw (min-eq_left {n = n} {m = length s} (leb-true n (length s) e))
drop_by n s false e =
    let g : length s ≤ n = omega (arith, leb-false n (length s) e) in
    rw (min-eq_right {n = length s} {m = n} g) (drop_of_length-le s {i = length s} (omega arith) ∙ sym (drop_of_length-le s {i = n} g))

-- and no more left out
pub drop_least : (n : ℕ) (s : List ℕ) → drop (min n (length s)) s ≡ drop n s
drop_least n s = drop_by n s (leb n (length s)) refl

-- what is left out behind the first n, as the code's `&s[n..]` has it
pub tail_least : (n m : ℕ) (s : List ℕ) → m ≡ min n (length s) → take (length s - m) (drop m s) ≡ drop n s
tail_least n m s e =
    let g : length (drop m s) ≤ length s - m = simp length-drop (omega arith) in
    take_all (length s - m) (drop m s) g ∙ ap (λ k. drop k s) e ∙ drop_least n s
