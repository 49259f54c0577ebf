-- Kepler's loop: what is left to do is what the definition says is left to do.
use mathlib.Core.Path.{◌≡◌, refl, sym, ap, subst, ◌∙◌}
use Prim.Native.Nat.{ℕ, zero, suc, ◌+◌, ◌-◌, ◌≤◌, ◌<◌}
use native.Mathlib.Omega.{arith}
use mathlib.Core.Bool.{Bool, true, false, cond}
use Rattle.state.specs.declared.parts.Long.{Long}
use Rattle.state.specs.declared.parts.Anomaly.{Anomaly}
use Rattle.state.specs.Kepler.{corrected, unsettled, solved, begun, kepler}
use Rattle.state.specs.Two.{gone_on}

-- after n rounds the rest of the rounds, from k, leads to the answer
pub record Left (q : Long) (k : Anomaly) (n : ℕ) : Type 0 where
  pub few : n ≤ 10
  pub counted : unsettled k ≡ true → k.rounds ≡ n
  pub rest : solved (10 - n) (unsettled k) q k ≡ kepler q

pub start : (q : Long) (k : Anomaly) → k ≡ begun q → Left q k 0
unfolding kepler begun
start q k e = record { few = omega arith; counted = λ u. ap (λ (z : Anomaly). z.rounds) e; rest = ap (λ (z : Anomaly). solved 10 (unsettled z) q z) e }

more : (n : ℕ) (q : Long) (k : Anomaly) → unsettled k ≡ true
    → solved (suc n) (unsettled k) q k ≡ solved n (unsettled (corrected q k.eo1 (k.rounds + 1))) q (corrected q k.eo1 (k.rounds + 1))
unfolding solved
more n q k h = ap (λ (b : Bool). solved (suc n) b q k) h

settled : (n : ℕ) (q : Long) (k : Anomaly) → unsettled k ≡ false → solved n (unsettled k) q k ≡ k
unfolding solved
settled zero q k h = refl
settled (suc n) q k h = ap (λ (b : Bool). solved (suc n) b q k) h

pub again : (q : Long) (k k' : Anomaly) (n : ℕ) → Left q k n → n < 10 → unsettled k ≡ true → k' ≡ corrected q k.eo1 (n + 1) → Left q k' (n + 1)
unfolding corrected
again q k k' n l h u e =
    let s : 10 - n ≡ suc (10 - (n + 1)) = omega arith in
    let t : k' ≡ corrected q k.eo1 (k.rounds + 1) = e ∙ ap (λ (m : ℕ). corrected q k.eo1 (m + 1)) (sym (l.counted u)) in
    record {
      few = omega arith;
      counted = λ v. ap (λ (z : Anomaly). z.rounds) e;
      rest =
          ap (λ (z : Anomaly). solved (10 - (n + 1)) (unsettled z) q z) t
          ∙ sym (more (10 - (n + 1)) q k u)
          ∙ sym (ap (λ (m : ℕ). solved m (unsettled k) q k) s)
          ∙ l.rest;
    }

pub early : (q : Long) (k : Anomaly) (n : ℕ) → Left q k n → unsettled k ≡ false → k ≡ kepler q
early q k n l u = sym (settled (10 - n) q k u) ∙ l.rest

pub late : (q : Long) (k : Anomaly) (n : ℕ) → Left q k n → 10 ≤ n → k ≡ kepler q
unfolding solved
late q k n l h =
    let s : 10 - n ≡ 0 = omega arith in
    sym (ap (λ (m : ℕ). solved m (unsettled k) q k) s) ∙ l.rest

-- a time that is settled waits for the other one
stays : (q : Long) (k : Anomaly) (n : ℕ) → Left q k n → n < 10 → unsettled k ≡ false → Left q k (n + 1)
stays q k n l h u =
    record { few = omega arith; counted = λ v. let z : ◌≡◌ {A = ℕ} 0 1 = ap (λ (b : Bool). cond b 1 0) (sym u ∙ v) in absurd (omega arith); rest = settled (10 - (n + 1)) q k u ∙ sym (settled (10 - n) q k u) ∙ l.rest }

pub on : (q : Long) (k k' : Anomaly) (n : ℕ) → Left q k n → n < 10 → k' ≡ gone_on q k (n + 1) → Left q k' (n + 1)
unfolding gone_on
on q k k' n l h e = go (unsettled k) refl
  where
    go : (b : Bool) → unsettled k ≡ b → Left q k' (n + 1)
    go true u = again q k k' n l h u (e ∙ ap (λ (b : Bool). cond b (corrected q k.eo1 (n + 1)) k) u)
    go false u = subst (λ (z : Anomaly). Left q z (n + 1)) (sym (e ∙ ap (λ (b : Bool). cond b (corrected q k.eo1 (n + 1)) k) u)) (stays q k n l h u)
