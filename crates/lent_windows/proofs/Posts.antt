-- What a call leaves in memory, from what the calls inside it do.
use Prim.Native.Nat.{ℕ, ◌%◌, ◌≤◌}
use mathlib.Core.Path.{◌≡◌, refl, sym, ap, ◌∙◌, subst}
use mathlib.Core.Bool.{Bool, true, false}
use mathlib.Core.List.{List}
use native.Mathlib.Omega.{arith}
use lib.ListN.{length}
use lib.Ieee.{Float}
use Rattle.opening.specs.declared.opening.Satellite.{Satellite}
use Rattle.requests.specs.Lists.{rows_from}
use Rattle.windows.specs.declared.WindowsAnswer.{WindowsAnswer}
use Rattle.windows.specs.Windows.{refusal_of}
use Rattle.windows.specs.Answer as W
use Rattle.windows.proofs.Claims.{few_windows}
use Rattle.storage.specs.Storage.{too_short, satellite_of}
use Rattle.answers.specs.Answer.{answer}
use Rattle.lent_requests.specs.Requests.{saved_numbers, saved_marks}
use Rattle.lent_windows.specs.Windows.{station_of, windows_answer, Windowed, WindowsPost}

absurd : {B : Type 0} → ⊥ → B
absurd = elim [ ]

module _ (ns : List Float) (ms : List ℕ) (p : List Float) (start step samples : ℕ) (a b : List ℕ) where
  refused : (t : Bool) → t ≡ true → (r : ℕ) → r ≡ answer (refusal_of (station_of p) step samples true) 0 0 0
      → Windowed t (satellite_of ns ms) (W.call_of (station_of p) start step samples (length a) (length b)) ns ms a b r ns ms a b
  refused t e r h = rw e (record { answered = h; numbers = refl; marks = refl; firsts = refl; lasts = refl })

  pub memory_short : too_short (length ns) (length ms) ≡ true → (q : List Float) → q ≡ station_of p → (k r : ℕ) → k ≡ refusal_of q step samples true → r ≡ answer k 0 0 0
      → WindowsPost ns ms p start step samples a b r ns ms a b
  memory_short e q hq k r hk hr = refused _ e r (hr ∙ ap (λ k. answer k 0 0 0) (hk ∙ ap (λ q. refusal_of q step samples true) hq))

  -- no count of windows is cut
  whole : (s : Satellite) (x : WindowsAnswer) → x ≡ W.windowed s (W.call_of (station_of p) start step samples (length a) (length b)) → x.windows % 65536 ≡ x.windows
  whole s x e =
      let c = W.call_of (station_of p) start step samples (length a) (length b) in
      let h : x.windows ≤ 512 = subst (λ (z : WindowsAnswer). z.windows ≤ 512) (sym e) (few_windows c (rows_from s (W.call_times s c))) in
      omega (arith, h)

  full : (t : Bool) → t ≡ false → (s u : Satellite) → s ≡ u → (x : WindowsAnswer) (r : ℕ) (ns' : List Float) (ms' a' b' : List ℕ)
      → W.WindowsPost s (W.call_of (station_of p) start step samples (length a) (length b)) a b x a' b'
      → r ≡ answer x.refusal 0 (x.windows % 65536) x.strides.0
      → ns' ≡ saved_numbers x.refusal x.satellite.place ns ms → ms' ≡ saved_marks x.refusal x.satellite.place ns ms
      → Windowed t u (W.call_of (station_of p) start step samples (length a) (length b)) ns ms a b r ns' ms' a' b'
  full t e s u w x r ns' ms' a' b' q hr hn hm =
      rw (e, ← w) (record {
        answered = hr ∙ ap (λ n. answer x.refusal 0 n x.strides.0) (whole s x q.answer) ∙ ap windows_answer q.answer;
        numbers = hn ∙ ap (λ z. saved_numbers z.refusal z.satellite.place ns ms) q.answer;
        marks = hm ∙ ap (λ z. saved_marks z.refusal z.satellite.place ns ms) q.answer;
        firsts = q.firsts;
        lasts = q.lasts;
      })

  pub windows_full : (s : Satellite) → (too_short (length ns) (length ms) ≡ false) × (s ≡ satellite_of ns ms) → (q : List Float) → q ≡ station_of p
      → (x : WindowsAnswer) (r : ℕ) (ns' : List Float) (ms' a' b' : List ℕ)
      → W.WindowsPost s (W.call_of q start step samples (length a) (length b)) a b x a' b'
      → r ≡ answer x.refusal 0 (x.windows % 65536) x.strides.0
      → ns' ≡ saved_numbers x.refusal x.satellite.place ns ms → ms' ≡ saved_marks x.refusal x.satellite.place ns ms
      → WindowsPost ns ms p start step samples a b r ns' ms' a' b'
  windows_full s l q hq x r ns' ms' a' b' z =
      full _ l.0 s _ l.1 x r ns' ms' a' b'
      (subst (λ (v : List Float). W.WindowsPost s (W.call_of v start step samples (length a) (length b)) a b x a' b') hq z)
