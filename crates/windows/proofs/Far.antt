-- Epochs so late that every instant of the calendar is too far from them: each such epoch gives the same rows.
use mathlib.Core.Path.{◌≡◌, refl, sym, ap, ◌∙◌, subst}
use mathlib.Core.Bool.{Bool, true, false, false≢true}
use mathlib.Core.List.{List, [], ◌∷◌, map}
use Prim.Native.Nat.{ℕ, suc, ◌+◌, ◌-◌, ◌≤◌, ◌<◌, min}
use native.Mathlib.Omega.{arith}
use lib.ListN.{length}
use lib.Dec.{ltb}
use lib.IntN.{ℤ, sub_ℕ}
use lib.Ieee.{Float}
use borrow.Author.Tests.{ltb-true, ltb-false, lt-ltb, lt-leb}
use Rattle.instant.specs.Calendar.{in_calendar}
use Rattle.instant.proofs.Calendar as calendar
use Rattle.resonance.specs.Time.{in_range}
use Rattle.opening.specs.declared.opening.Satellite.{Satellite}
use Rattle.requests.specs.declared.Answered.{Answered}
use Rattle.requests.specs.Request.{asked, outside, answered}
use Rattle.requests.specs.Lists.{over, rows_from, strides_from, satellite_from}
use Rattle.windows.specs.declared.Looked.{Looked}
use Rattle.runs.specs.Runs.{windows_in}
use Rattle.windows.specs.Windows.{times_of, samples_of}
use Rattle.windows.specs.Answer.{windows_there, Looks}

far : (x e : ℕ) → x < 3155760000000000 → 3471292800000000 ≤ e → in_range (sub_ℕ x e) ≡ false
unfolding in_range
far x e h g = rw (lt-ltb x e (omega arith)) (lt-leb (suc (e - suc x)) 315532800000000 (omega arith))

below_by : (b : Bool) (x : ℕ) → ltb x 3155760000000000 ≡ b → in_calendar x ≡ true → x < 3155760000000000
below_by true x e h = ltb-true x 3155760000000000 e
below_by false x e h = absurd (false≢true (sym (calendar.outside x (ltb-false x 3155760000000000 e)) ∙ h))

below : (x : ℕ) → in_calendar x ≡ true → x < 3155760000000000
below x h = below_by (ltb x 3155760000000000) x refl h

asked_far : (s : Satellite) (t : ℤ) → in_range t ≡ false → asked s.model s.place t ≡ outside s.place
unfolding asked
asked_far s t h = rw h

answered_far : (s : Satellite) (t u : ℤ) → in_range t ≡ false → in_range u ≡ false → answered s t ≡ answered s u
answered_far s t u h g =
    ap (λ a. record { row = a.row; strides = a.strides; satellite = record { model = s.model; place = a.place } }) (asked_far s t h ∙ sym (asked_far s u g))

record Alike (s : Satellite) (ts us : List ℤ) : Type 0 where
  rows : rows_from s ts ≡ rows_from s us
  strides : strides_from s ts ≡ strides_from s us
  held : satellite_from s ts ≡ satellite_from s us

alike_more : (s : Satellite) (t u : ℤ) (ts us : List ℤ) → answered s t ≡ answered s u → Alike (answered s t).satellite ts us → Alike s (t ∷ ts) (u ∷ us)
alike_more s t u ts us e a =
    record {
      rows = ap (λ l. (answered s t).row ∷ l) a.rows ∙ ap (λ (z : Answered). z.row ∷ rows_from z.satellite us) e;
      strides = ap (λ n. (answered s t).strides.0 + n) a.strides ∙ ap (λ (z : Answered). z.strides.0 + strides_from z.satellite us) e;
      held = a.held ∙ ap (λ (z : Answered). satellite_from z.satellite us) e;
    }

module _ (e f : ℕ) (g : 3471292800000000 ≤ e) (h : 3471292800000000 ≤ f) where
  alike_by : (b : Bool) (s : Satellite) (x : ℕ) (xs : List ℕ) → in_calendar x ≡ b → ((t : Satellite) → Alike t (times_of e xs) (times_of f xs))
      → Alike s (times_of e (x ∷ xs)) (times_of f (x ∷ xs))
  alike_by true s x xs c a =
      rw c
      (alike_more s (sub_ℕ x e) (sub_ℕ x f) (times_of e xs) (times_of f xs)
      (answered_far s (sub_ℕ x e) (sub_ℕ x f) (far x e (below x c) g) (far x f (below x c) h)) (a (answered s (sub_ℕ x e)).satellite))
  alike_by false s x xs c a = rw c (a s)

  alike : (s : Satellite) (xs : List ℕ) → Alike s (times_of e xs) (times_of f xs)
  alike s [] = record { rows = refl; strides = refl; held = refl }
  alike s (x ∷ xs) = alike_by (in_calendar x) s x xs refl (λ t. alike t xs)

module _ (s : Satellite) (e : ℕ) (p : List Float) (xs a b : List ℕ) (l : Looked) (a' b' : List ℕ) where
  near_by : (c : Bool) → ltb e 3471292800000000 ≡ c → Looks s (min e 3471292800000000) p xs a b l a' b' → Looks s e p xs a b l a' b'
  near_by true h q =
      let m : min e 3471292800000000 ≡ e = omega (arith, ltb-true e 3471292800000000 h) in
      subst (λ (k : ℕ). Looks s k p xs a b l a' b') m q
  near_by false h q =
      let g : 3471292800000000 ≤ e = ltb-false e 3471292800000000 h in
      let z = alike (min e 3471292800000000) e (omega arith) g s xs in
      let v : windows_there s (min e 3471292800000000) p xs ≡ windows_there s e p xs = ap (λ rs. windows_in (samples_of p xs rs)) z.rows in
      record {
        count = q.count ∙ ap length v;
        strides = q.strides ∙ z.strides;
        held = q.held ∙ z.held;
        firsts = q.firsts ∙ ap (λ ws. over (map (λ w. w.first) ws) a) v;
        lasts = q.lasts ∙ ap (λ ws. over (map (λ w. w.last) ws) b) v;
      }

  pub near : Looks s (min e 3471292800000000) p xs a b l a' b' → Looks s e p xs a b l a' b'
  near q = near_by (ltb e 3471292800000000) refl q
