-- A call that is not refused: the rows of the samples inside the calendar, and their windows.
use mathlib.Core.Path.{◌≡◌, refl, sym, ap, ◌∙◌}
use mathlib.Core.Bool.{false}
use mathlib.Core.Logic.{◌⊎◌, inl, inr}
use mathlib.Core.List.{List, [], ◌∷◌, ◌++◌, map}
use Prim.Native.Nat.{ℕ, suc, ◌*◌, ◌≤◌, ◌<◌}
use native.Mathlib.Omega.{arith}
use lib.ListN.{length, take, drop}
use lib.Seq.{length-take-le}
use lib.IntN.{ℤ}
use lib.Ieee.{Float}
use borrow.Author.Tests.{le-ltb, eq-eqb}
use Rattle.opening.specs.declared.opening.Satellite.{Satellite}
use Rattle.requests.specs.declared.ListAnswer.{ListAnswer}
use Rattle.requests.specs.Request.{answered}
use Rattle.requests.specs.Lists.{rows_from, strides_from, satellite_from, refusals_of, states_of, over, list_refusal, list_times, ListPost}
use Rattle.windows.specs.Windows.{instants_from, times_of}
use Rattle.windows.specs.Scan.{instant_at, is_seen, windows_to, Written}
use Rattle.windows.specs.Answer.{Times, windows_there, Looks}
use Rattle.windows.proofs.Tying.{tied, agrees}

rows_length : (s : Satellite) (ts : List ℤ) → length (rows_from s ts) ≡ length ts
rows_length s [] = refl
rows_length s (t ∷ ts) = ap suc (rows_length (answered s t).satellite ts)

room_enough : (n a b c : ℕ) → n ≤ 1024 → n ≤ a → 6 * n ≤ b → n ≤ c → list_refusal n a b c ≡ 0
unfolding list_refusal
room_enough n a b c h f g k = rw (le-ltb 1024 n h, le-ltb a n f, le-ltb b (6 * n) g, le-ltb c n k)

inside_start : (k start : ℕ) → (k ≡ 0) ⊎ (start < 3155760000000000) → (k ≡ 0 → ⊥) → start < 3155760000000000
inside_start k start (inl z) n = absurd (n z)
inside_start k start (inr l) n = l

pub begun : (e start step n k : ℕ) (ts : List ℤ) → Times e start step n k ts → (k ≡ 0 → ⊥) → start < 3155760000000000
begun e start step n k ts t z = inside_start k start t.inside z

module _ (s : Satellite) (e : ℕ) (station : List Float) (start step n k : ℕ) (ts : List ℤ) (t : Times e start step n k ts) (f l : List ℕ) where
  -- no sample lies inside the calendar
  pub looks_none : k ≡ 0 → Looks s e station (instants_from start step 0 n) f l (record { windows = 0; strides = record { 0 = 0 }; satellite = s }) f l
  looks_none z =
      let none : times_of e (instants_from start step 0 n) ≡ [] = sym t.taken ∙ ap (λ j. take j ts) z in
      let ws : windows_there s e station (instants_from start step 0 n) ≡ [] =
      rw none (sym (tied station e start step (λ i. false) n [] (ap length (sym none)) tt)) in
      record {
        count = ap length (sym ws);
        strides = rw none;
        held = rw none;
        firsts = rw ws;
        lasts = rw ws;
      }

  module _ (a : List ℕ) (b : List Float) (c : List ℕ) (r : ListAnswer) (a' : List ℕ) (b' : List Float) (c' : List ℕ) (p : ListPost s (take k ts) a b c r a' b' c')
      (room : k ≤ length ts) (ra : 1024 ≤ length a) (rb : 6144 ≤ length b) (rc : 1024 ≤ length c) (few : n ≤ 1024) where
    accepted : list_times (take k ts) (length a) (length b) (length c) ≡ times_of e (instants_from start step 0 n)
    accepted =
        let m : length (take k ts) ≡ k = length-take-le k ts room in
        let z : list_refusal (length (take k ts)) (length a) (length b) (length c) ≡ 0 =
        room_enough (length (take k ts)) (length a) (length b) (length c) (omega (arith, t.upto)) (omega (arith, t.upto)) (omega (arith, t.upto)) (omega (arith, t.upto)) in
        rw (eq-eqb (list_refusal (length (take k ts)) (length a) (length b) (length c)) 0 z) t.taken

    windows_are : windows_to (is_seen station start step a' b') (instant_at start step) k ≡ windows_there s e station (instants_from start step 0 n)
    windows_are =
        let us = times_of e (instants_from start step 0 n) in
        let rows = rows_from s us in
        let m : length rows ≡ k = rows_length s us ∙ ap length (sym t.taken) ∙ length-take-le k ts room in
        let ha : drop 0 a' ≡ refusals_of rows ++ drop (length (refusals_of rows)) a = p.refusals ∙ ap (λ us. over (refusals_of (rows_from s us)) a) accepted in
        let hb : drop (6 * 0) b' ≡ states_of rows ++ drop (length (states_of rows)) b = p.states ∙ ap (λ us. over (states_of (rows_from s us)) b) accepted in
        ap (windows_to (is_seen station start step a' b') (instant_at start step)) (sym m)
        ∙ tied station e start step (is_seen station start step a' b') n rows (rows_length s us) (agrees station start step a' b' 0 rows _ _ ha hb)

    pub looks_some : (m : ℕ) (f' l' : List ℕ) → Written (windows_to (is_seen station start step a' b') (instant_at start step) k) f l m f' l'
        → Looks s e station (instants_from start step 0 n) f l (record { windows = m; strides = r.strides; satellite = r.satellite }) f' l'
    looks_some m f' l' w =
        record {
          count = w.count ∙ ap length windows_are;
          strides = ap (λ x. x.strides.0) p.answer ∙ ap (strides_from s) accepted;
          held = ap (λ x. x.satellite) p.answer ∙ ap (satellite_from s) accepted;
          firsts = w.firsts ∙ ap (λ ws. over (map (λ v. v.first) ws) f) windows_are;
          lasts = w.lasts ∙ ap (λ ws. over (map (λ v. v.last) ws) l) windows_are;
        }
