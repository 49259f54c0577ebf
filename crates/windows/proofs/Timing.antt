-- The times of the samples inside the calendar, put at the front of a room one after the other.
use mathlib.Core.Path.{◌≡◌, refl, sym, ap, ◌∙◌, subst}
use mathlib.Core.Bool.{true, false}
use mathlib.Core.Logic.{◌⊎◌, inl, inr}
use mathlib.Core.List.{List, [], ◌∷◌, ◌++◌, append_assoc}
use Prim.Native.Nat.{ℕ, suc, ◌+◌, ◌-◌, ◌*◌, ◌≤◌, ◌<◌}
use native.Mathlib.Omega.{arith}
use lib.ListN.{length, take, set, length-set}
use lib.Seq.{take-suc-set}
use lib.IntN.{ℤ, sub_ℕ}
use Rattle.instant.specs.Calendar.{in_calendar}
use Rattle.instant.proofs.Calendar.{inside, outside}
use Rattle.windows.specs.Windows.{sample_micros, instants_from, times_of}
use Rattle.windows.specs.Answer.{Times}
use Rattle.windows.proofs.Tail.{no_more}

pub record Timing (e start step n m : ℕ) (ts : List ℤ) (t k : ℕ) : Type 0 where
  pub upto : k ≤ n
  pub here : t ≡ sample_micros start step k
  pub so_far : times_of e (instants_from start step 0 n) ≡ take k ts ++ times_of e (instants_from start step k (n - k))
  pub room : length ts ≡ m
  pub fits : n ≤ m
  pub begun : (k ≡ 0) ⊎ (start < 3155760000000000)

append_nil : {A : Type 0} (xs : List A) → xs ++ [] ≡ xs
append_nil [] = refl
append_nil (x ∷ xs) = ap (λ l. x ∷ l) (append_nil xs)

module _ (e start step n m : ℕ) where
  pub timing_none : (ts : List ℤ) → length ts ≡ m → n ≤ m → Timing e start step n m ts start 0
  timing_none ts h g =
      let z : n - 0 ≡ n = omega arith in
      record { upto = omega arith; here = omega arith; so_far = ap (λ j. times_of e (instants_from start step 0 j)) (sym z); room = h; fits = g; begun = inl refl }

  module _ (ts : List ℤ) (t k : ℕ) (s : Timing e start step n m ts t k) where
    more : k < n → t < 3155760000000000
        → times_of e (instants_from start step k (n - k)) ≡ sub_ℕ t e ∷ times_of e (instants_from start step (suc k) (n - suc k))
    more l h =
        let d : n - k ≡ suc (n - suc k) = omega arith in
        let i : in_calendar (sample_micros start step k) ≡ true = inside (sample_micros start step k) (omega (arith, s.here)) in
        rw d (rw i (ap (λ x. sub_ℕ x e ∷ times_of e (instants_from start step (suc k) (n - suc k))) (sym s.here)))

    suc_step : k < n → t < 3155760000000000 → (x : ℤ) → x ≡ sub_ℕ t e → Timing e start step n m (set ts k x) (t + step * 1000000) (suc k)
    suc_step l h x v =
        record {
          upto = l;
          here = omega (arith, s.here, times_suc);
          so_far =
              s.so_far
              ∙ ap (λ r. take k ts ++ r) (more l h)
              ∙ sym (append_assoc (take k ts) (sub_ℕ t e ∷ []) _)
              ∙ ap (λ r. r ++ times_of e (instants_from start step (suc k) (n - suc k)))
              (ap (λ y. take k ts ++ (y ∷ [])) (sym v) ∙ sym (take-suc-set ts k x (omega (arith, s.room, s.fits))));
          room = length-set ts k x ∙ s.room;
          fits = s.fits;
          begun = inr (omega (arith, s.here));
        }
      where
        times_suc : suc k * step ≡ k * step + step
        times_suc = omega arith

    pub timing_more : k < n → t < 3155760000000000 → (x : ℤ) → x ≡ sub_ℕ t e → Timing e start step n m (set ts k x) (t + step * 1000000) (k + 1)
    timing_more l h x v =
        let z : k + 1 ≡ suc k = omega arith in
        subst (λ (j : ℕ). Timing e start step n m (set ts k x) (t + step * 1000000) j) (sym z) (suc_step l h x v)

    pub timing_done : n ≤ k → Times e start step n n ts
    timing_done l =
        let d : n - k ≡ 0 = omega arith in
        let all : k ≡ n = omega (arith, s.upto) in
        subst (λ (j : ℕ). Times e start step n j ts) all (record { upto = s.upto; taken = sym (s.so_far ∙ ap (λ j. take k ts ++ times_of e (instants_from start step k j)) d ∙ append_nil (take k ts)); inside = s.begun })

    pub timing_out : 3155760000000000 ≤ t → Times e start step n k ts
    timing_out l =
        let o : in_calendar (sample_micros start step k) ≡ false = outside (sample_micros start step k) (omega (arith, s.here)) in
        record { upto = s.upto; taken = sym (s.so_far ∙ ap (λ r. take k ts ++ r) (no_more e start step k (n - k) o) ∙ append_nil (take k ts)); inside = s.begun }
