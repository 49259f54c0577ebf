-- Runs of stores one after the other, and how many elements each has.
use mathlib.Core.Path.{◌≡◌, sym, ap, ◌∙◌}
use mathlib.Core.List.{List, [], ◌∷◌, ◌++◌, append_assoc}
use Prim.Native.Nat.{ℕ, suc, ◌+◌, ◌-◌, ◌≤◌}
use native.Mathlib.Omega.{arith}
use lib.ListN.{length, take, drop, set}
use lib.Seq.{sets, sets-eq, drop-drop}

module _ {A : Type 0} where
  -- a run where the last one ended
  pub run_append : (xs ys l : List A) (i j : ℕ) → i + length xs ≡ j → sets (sets l i xs) j ys ≡ sets l i (xs ++ ys)
  run_append [] ys l i j e = ap (λ k. sets l k ys) (omega arith)
  run_append (x ∷ xs) ys l i j e = run_append xs ys (set l i x) (suc i) j (omega arith)

  -- a run copied over the elements from i on, as the part that was lent comes back
  pub run_over : (xs ys l : List A) (i : ℕ) → i + length xs ≤ length l → ys ≡ xs → take i l ++ (ys ++ drop (i + length xs - i) (drop i l)) ≡ sets l i xs
  run_over xs ys l i h e =
      let k : i + length xs - i ≡ length xs = omega arith in
      rw (e, k, drop-drop (length xs) i l) (sym (append_assoc (take i l) xs (drop (i + length xs) l)) ∙ sym (sets-eq xs l i h))

  -- m, which a run left, and n, which the next left after it
  pub run_next : (l m n us xs ys : List A) (i j : ℕ) → m ≡ sets l i xs → i + length xs ≡ j → n ≡ sets m j us → us ≡ ys → n ≡ sets l i (xs ++ ys)
  run_next l m n us xs ys i j p e q u = q ∙ ap (λ k. sets k j us) p ∙ ap (λ k. sets (sets l i xs) j k) u ∙ run_append xs ys l i j e

  -- a run from the start
  pub run_front : (xs l : List A) (n : ℕ) → length xs ≡ n → n ≤ length l → sets l 0 xs ≡ xs ++ drop n l
  run_front xs l n e h =
      let e' : 0 + length xs ≡ n = omega arith in
      sets-eq xs l 0 (omega arith) ∙ ap (λ k. xs ++ drop k l) e'
