-- A call refused, and a call answered.
use mathlib.Core.Path.{◌≡◌, sym, ap, ◌∙◌, subst}
use mathlib.Core.Bool.{Bool}
use mathlib.Core.List.{List, []}
use Prim.Native.Nat.{ℕ, ◌+◌, ◌/◌, ◌≤◌, min}
use native.Mathlib.Omega.{arith}
use lib.ListN.{length}
use lib.Ieee.{Float}
use borrow.Author.Tests.{eq-eqb, ne_eqb}
use Rattle.opening.specs.declared.opening.Satellite.{Satellite}
use Rattle.requests.specs.Lists.{strides_from}
use Rattle.windows.specs.declared.Looked.{Looked}
use Rattle.windows.specs.declared.WindowsAnswer.{WindowsAnswer}
use Rattle.windows.specs.Windows.{Call, few_places, refusal_of, call_refusal, instants_from, instants_of, times_of}
use Rattle.windows.specs.Answer.{call_of, WindowsPost, windows_there, Looks}
use Rattle.windows.proofs.Refusing.{meets, places_enough}
use Rattle.windows.proofs.Far.{near}

pub rooms : (p : List Float) (step n a b : ℕ) → refusal_of p step n (few_places n (min a b)) ≡ 0 → (step ≤ 86400) × ((n ≤ 1024) × (((n + 1) / 2 ≤ a) × ((n + 1) / 2 ≤ b)))
rooms p step n a b h =
    let m = meets p step n (few_places n (min a b)) h in
    let g = places_enough n (min a b) m.1.1 in
    (m.0, (m.1.0, (omega (arith, g), omega (arith, g))))

module _ (s : Satellite) (p : List Float) (start step n : ℕ) (a b : List ℕ) (f : Bool) (hf : f ≡ few_places n (min (length a) (length b))) (k : ℕ) (hk : k ≡ refusal_of p step n f) where
  abbrev the : Call
  the = call_of p start step n (length a) (length b)

  h : k ≡ call_refusal the
  h = hk ∙ ap (refusal_of p step n) hf

  pub refused : (k ≡ 0 → ⊥) → WindowsPost s (call_of p start step n (length a) (length b)) a b (record { refusal = k; windows = 0; strides = record { 0 = 0 }; satellite = s }) a b
  refused z =
      let none : instants_of the ≡ [] = rw (ne_eqb (call_refusal the) 0 (λ y. z (h ∙ y))) in
      record { answer = rw (none, h); firsts = rw none; lasts = rw none }

  answered_at : k ≡ 0 → (l : Looked) (a' b' : List ℕ) → Looks s s.model.epoch.0 p (instants_from start step 0 n) a b l a' b'
      → WindowsPost s (call_of p start step n (length a) (length b)) a b (record { refusal = k; windows = l.windows; strides = l.strides; satellite = l.satellite }) a' b'
  answered_at z l a' b' q =
      let e = s.model.epoch.0 in
      let all : instants_of the ≡ instants_from start step 0 n = rw (eq-eqb (call_refusal the) 0 (sym h ∙ z)) in
      let answers : ℕ → ℕ → ℕ → Satellite → WindowsAnswer = λ r w n x. record { refusal = r; windows = w; strides = record { 0 = n }; satellite = x } in
      record {
        answer =
            rw all
            (ap (λ x. answers x l.windows l.strides.0 l.satellite) h
            ∙ ap (λ x. answers (call_refusal the) x l.strides.0 l.satellite) q.count
            ∙ ap (λ x. answers (call_refusal the) (length (windows_there s e p (instants_from start step 0 n))) x l.satellite) q.strides
            ∙ ap (answers (call_refusal the) (length (windows_there s e p (instants_from start step 0 n))) (strides_from s (times_of e (instants_from start step 0 n)))) q.held);
        firsts = rw all q.firsts;
        lasts = rw all q.lasts;
      }

  pub answered : k ≡ 0 → (e' : ℕ) → e' ≡ min s.model.epoch.0 3471292800000000 → (l : Looked) (a' b' : List ℕ) → Looks s e' p (instants_from start step 0 n) a b l a' b'
      → WindowsPost s (call_of p start step n (length a) (length b)) a b (record { refusal = k; windows = l.windows; strides = l.strides; satellite = l.satellite }) a' b'
  answered z e' y l a' b' q =
      answered_at z l a' b' (near s s.model.epoch.0 p (instants_from start step 0 n) a b l a' b' (subst (λ (d : ℕ). Looks s d p (instants_from start step 0 n) a b l a' b') y q))
