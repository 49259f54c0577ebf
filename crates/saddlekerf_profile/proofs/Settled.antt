-- The saved position of a near-Earth satellite, settled in place.
use Prim.Native.Nat.{ℕ, ◌≤◌}
use mathlib.Core.Path.{◌≡◌, refl, sym, ap, ◌∙◌}
use mathlib.Core.List.{List, [], ◌∷◌}
use native.Mathlib.Omega.{arith}
use lib.ListN.{length, set, get_or}
use lib.Ieee.{Float}
use borrow.Author.Tests.{eq-eqb, ne_eqb}
use Rattle.elementary.specs.Notation.{dec}
use Rattle.resonance.specs.declared.place.Side.TheVariants.{Forward}
use Rattle.resonance.specs.Place.{epoch_of, at_epoch, facing}
use Rattle.sgp4.specs.Sgp4.{no_integrator}
use Rattle.requests.specs.Lists.{over}
use Rattle.storage.specs.Storage.{place_at, place_numbers, place_marks}
use Rattle.profile.specs.Request.{settled}
use Rattle.saddlekerf_profile.specs.Requests.{settled_numbers, settled_marks}

absurd : {A : Type 0} → ⊥ → A
absurd = elim [ ]

-- ── strides were saved: the position of the epoch ──

place_some : (ns : List Float) (ms : List ℕ) → (get_or ms 1 0 ≡ 0 → ⊥) → settled (place_at ns ms) ≡ epoch_of no_integrator
unfolding settled place_at
place_some ns ms d = rw (ne_eqb (get_or ms 1 0) 0 d)

numbers_over : (l : List Float) → 2 ≤ length l → set (set l 0 (dec 0 0)) 1 (dec 0 0) ≡ over (place_numbers (epoch_of no_integrator)) l
unfolding place_numbers epoch_of at_epoch no_integrator
numbers_over [] h = absurd (omega arith)
numbers_over (a ∷ []) h = absurd (omega arith)
numbers_over (a ∷ b ∷ l) h = refl

marks_over : (l : List ℕ) → 2 ≤ length l → set (set l 0 0) 1 0 ≡ over (place_marks (epoch_of no_integrator)) l
unfolding place_marks epoch_of
marks_over [] h = absurd (omega arith)
marks_over (a ∷ []) h = absurd (omega arith)
marks_over (a ∷ b ∷ l) h = refl

pub some_strides : (ns : List Float) (ms : List ℕ) → 2 ≤ length ns → 2 ≤ length ms → (get_or ms 1 0 ≡ 0 → ⊥)
    → (set (set ns 0 (dec 0 0)) 1 (dec 0 0) ≡ settled_numbers ns ms) × (set (set ms 0 0) 1 0 ≡ settled_marks ns ms)
some_strides ns ms h k d =
    let e = sym (place_some ns ms d) in
    (numbers_over ns h ∙ ap (λ p. over (place_numbers p) ns) e, marks_over ms k ∙ ap (λ p. over (place_marks p) ms) e)

-- ── none were: the side is kept as forward ──

place_none : (ns : List Float) (ms : List ℕ) → get_or ms 1 0 ≡ 0 → settled (place_at ns ms) ≡ facing Forward (place_at ns ms)
unfolding settled place_at
place_none ns ms z = rw (eq-eqb (get_or ms 1 0) 0 z)

numbers_kept : (l : List Float) (ms : List ℕ) → 2 ≤ length l → l ≡ over (place_numbers (facing Forward (place_at l ms))) l
unfolding place_numbers place_at
numbers_kept [] ms h = absurd (omega arith)
numbers_kept (a ∷ []) ms h = absurd (omega arith)
numbers_kept (a ∷ b ∷ l) ms h = refl

marks_kept : (ns : List Float) (l : List ℕ) → 2 ≤ length l → set l 0 0 ≡ over (place_marks (facing Forward (place_at ns l))) l
unfolding place_marks place_at
marks_kept ns [] h = absurd (omega arith)
marks_kept ns (a ∷ []) h = absurd (omega arith)
marks_kept ns (a ∷ b ∷ l) h = refl

pub no_strides : (ns : List Float) (ms : List ℕ) → 2 ≤ length ns → 2 ≤ length ms → get_or ms 1 0 ≡ 0
    → (ns ≡ settled_numbers ns ms) × (set ms 0 0 ≡ settled_marks ns ms)
no_strides ns ms h k z =
    let e = sym (place_none ns ms z) in
    (numbers_kept ns ms h ∙ ap (λ p. over (place_numbers p) ns) e, marks_kept ns ms k ∙ ap (λ p. over (place_marks p) ms) e)
