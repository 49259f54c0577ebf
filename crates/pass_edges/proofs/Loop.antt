-- The loops: what is left to do after k of n steps, resumed, is the whole.
use Rattle.std.proofs.Common.{◌≡◌, ℕ, suc, ◌+◌, ◌-◌, ◌≤◌, ◌<◌, Bool, true, false, cond, refl, sym, ap, ◌∙◌, arith}
use Rattle.pass_edges.specs.Search.{until, left_over}

pub record Left {A : Type 0} (stop : A → Bool) (next : A → A) (n : ℕ) (x₀ : A) (k : ℕ) (x : A) : Type 0 where
  pub rest : until stop next (n - k) x ≡ until stop next n x₀
  pub count : left_over stop next (n - k) x ≡ left_over stop next n x₀

pub begun : {A : Type 0} (stop : A → Bool) (next : A → A) (n : ℕ) (x : A) → Left stop next n x 0 x
begun stop next n x =
    let all : n - 0 ≡ n = omega arith in
    record { rest = ap (λ m. until stop next m x) all; count = ap (λ m. left_over stop next m x) all }

module _ {A : Type 0} (stop : A → Bool) (next : A → A) where
  -- ── one step ──

  by_rest : (n : ℕ) (x : A) (b : Bool) → stop (next x) ≡ b → until stop next (suc n) x ≡ cond b (next x) (until stop next n (next x))
  unfolding until
  by_rest n x b h = ap (λ z. cond z (next x) (until stop next n (next x))) h

  by_count : (n : ℕ) (x : A) (b : Bool) → stop (next x) ≡ b → left_over stop next (suc n) x ≡ cond b (suc n) (left_over stop next n (next x))
  unfolding left_over
  by_count n x b h = ap (λ z. cond z (suc n) (left_over stop next n (next x))) h

  -- ── none left ──

  none_rest : (x : A) → until stop next 0 x ≡ x
  unfolding until
  none_rest x = refl

  none_count : (x : A) → left_over stop next 0 x ≡ 0
  unfolding left_over
  none_count x = refl

  module _ (n : ℕ) (x₀ : A) (k : ℕ) (x : A) (l : Left stop next n x₀ k x) where
    one_more : k < n → n - k ≡ suc (n - (k + 1))
    one_more h = omega arith

    module _ (h : k < n) (y : A) (e : y ≡ next x) where
      pub again : stop y ≡ false → Left stop next n x₀ (k + 1) y
      again s =
          let t = sym (ap stop e) ∙ s in
          record {
            rest =
                ap (until stop next (n - (k + 1))) e
                ∙ sym (by_rest (n - (k + 1)) x false t)
                ∙ sym (ap (λ m. until stop next m x) (one_more h))
                ∙ l.rest;
            count =
                ap (left_over stop next (n - (k + 1))) e
                ∙ sym (by_count (n - (k + 1)) x false t)
                ∙ sym (ap (λ m. left_over stop next m x) (one_more h))
                ∙ l.count;
          }

      pub early : stop y ≡ true → (y ≡ until stop next n x₀) × (n - k ≡ left_over stop next n x₀)
      early s =
          let t = sym (ap stop e) ∙ s in (
            e ∙ sym (by_rest (n - (k + 1)) x true t) ∙ sym (ap (λ m. until stop next m x) (one_more h)) ∙ l.rest,
            one_more h ∙ sym (by_count (n - (k + 1)) x true t) ∙ sym (ap (λ m. left_over stop next m x) (one_more h)) ∙ l.count,
          )

    pub late : n ≤ k → (x ≡ until stop next n x₀) × (0 ≡ left_over stop next n x₀)
    late h =
        let z : n - k ≡ 0 = omega arith in (
          sym (none_rest x) ∙ sym (ap (λ m. until stop next m x) z) ∙ l.rest,
          sym (none_count x) ∙ sym (ap (λ m. left_over stop next m x) z) ∙ l.count,
        )
