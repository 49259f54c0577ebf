-- What a search for a newline tells of the rest of a piece: where `line_of` it ends.
use Rattle.std.proofs.Common.{ℕ, suc, ◌+◌, ◌-◌, ◌==◌, min, ◌≡◌, refl, sym, ap, ◌∙◌, List, [], ◌∷◌, length, take, drop, Bool, true, false, cond, not, Some, None, arith, length-take-le}
use Rattle.std.specs.List.{position, position_or_len}
use Prim.Native.Nat.compare
use lib.Dec.{ltb}
use lib.ListN.{drop_of_length-le, length-drop}
use lib.Seq.{take_all}
use borrow.Author.Tests.{ltb-true, ltb-false, lt-ltb}
use Rattle.text.specs.Output.{Put}
use Rattle.text.specs.Input.{line_of, ended_in, Gathering}
use Rattle.text.proofs.Pieces.{same}

abbrev before : List ℕ → ℕ
before s = position_or_len (λ b. b == 10) s

line_is : (s : List ℕ) → line_of s ≡ take (before s) s
unfolding line_of
line_is [] = refl
line_is (b ∷ s) =
    let e : 1 + before s ≡ suc (before s) = omega arith in
    elim (b == 10) as (λ t. cond t [] (b ∷ line_of s) ≡ take (cond (not t) (1 + before s) 0) (b ∷ s)) [
      | true ↦ refl
      | false ↦ rw e (ap (λ k. b ∷ k) (line_is s))
    ]

ended_is : (s : List ℕ) → ended_in s ≡ ltb (before s) (length s)
unfolding ended_in
ended_is [] = refl
ended_is (b ∷ s) =
    let e : 1 + before s ≡ suc (before s) = omega arith in
    elim (b == 10) as (λ t. cond t true (ended_in s) ≡ ltb (cond (not t) (1 + before s) 0) (length (b ∷ s))) [
      | true ↦ sym (lt-ltb 0 (suc (length s)) (omega arith))
      | false ↦ rw (e, compare.suc-suc) (ended_is s)
    ]

at_some : {m n : ℕ} (b : Bool) → Some n ≡ cond b (Some m) None → (b ≡ true) × (m ≡ n)
at_some true e = (refl, cc)
at_some false e = cc

at_none : (m : ℕ) (b : Bool) → None ≡ cond b (Some m) None → b ≡ false
at_none m true e = cc
at_none m false e = refl

-- the slice from an index on, or from the end where it is past it
pub rest_is : (p : List ℕ) (from m : ℕ) → m ≡ min from (length p) → take (length p - m) (drop m p) ≡ drop from p
rest_is p from m e =
    take_all (length p - m) (drop m p) (omega (arith, length-drop m p))
    ∙ elim (ltb from (length p)) as (λ t. ltb from (length p) ≡ t → drop m p ≡ drop from p) [
      | true ↦ λ h. let g : m ≡ from = omega (arith, ltb-true from (length p) h) in ap (λ k. drop k p) g
      | false ↦ λ h.
          let l = ltb-false from (length p) h in
          let g : m ≡ length p = omega arith in
          rw g (drop_of_length-le p (omega arith) ∙ sym (drop_of_length-le p l))
    ] refl

module _ {line line' rest : List ℕ} {size size' from : ℕ} (s : List ℕ) (r : s ≡ rest) where
  pub at_newline : (n : ℕ) → Some n ≡ position (λ b. b == 10) s → Put line size (take n s) line' size'
      → Gathering line size rest from line' (record { size = size'; next = from + n + 1; ended = true })
  at_newline n e p =
      let h = at_some (ltb (before s) (length s)) e in
      let t : ended_in rest ≡ true = rw (← r) (ended_is s ∙ h.0) in
      let l : line_of rest ≡ take n s = rw (← r, ← h.1) (line_is s) in
      record {
        put = same (sym l) p;
        next = rw (t, l) (omega (arith, length-take-le n s (omega (arith, ltb-true (before s) (length s) h.0, h.1))));
        ended = sym t;
      }

  pub no_newline : None ≡ position (λ b. b == 10) s → Put line size s line' size'
      → Gathering line size rest from line' (record { size = size'; next = from + length s; ended = false })
  no_newline e p =
      let h = at_none (before s) (ltb (before s) (length s)) e in
      let t : ended_in rest ≡ false = rw (← r) (ended_is s ∙ h) in
      let l : line_of rest ≡ s = rw (← r) (line_is s ∙ take_all (before s) s (ltb-false (before s) (length s) h)) in
      record {
        put = same (sym l) p;
        next = rw (t, l) (omega arith);
        ended = sym t;
      }
