-- One sample, and the refusals: what the code does is what the definition says.
use mathlib.Core.Path.{◌≡◌, refl, sym, ap, ◌∙◌}
use mathlib.Core.Bool.{Bool, true, false, cond, not, ◌&&◌, ◌||◌, false≢true}
use Prim.Native.Nat.{ℕ, ◌≤◌, ◌<◌}
use native.Mathlib.Omega.{arith}
use lib.Dec.{ltb, eqb}
use lib.Ieee.{Float}
use borrow.Author.Tests.{ltb-false, lt-ltb, le-ltb, eq-eqb, ne_eqb}
use Rattle.instant.proofs.Calendar.{inside, outside}
use Rattle.geodetic.specs.declared.Geodetic.{Geodetic}
use Rattle.geodetic.specs.Geodetic.{on_earth, between}
use Rattle.elementary.specs.Notation.{dec}
use Rattle.opening.specs.declared.opening.Satellite.{Satellite}
use Rattle.sightings.specs.declared.Seen.{Seen}
use Rattle.passes.specs.declared.Scan.{Scan}
use Rattle.pass_edges.proofs.Steps.{yes, no}
use Rattle.passes.specs.Samples.{hits, stopped, passed, judged, sampled}
use Rattle.passes.specs.Passes.{pass_refusal}

-- ── one sample ──

module _ (look : Satellite → ℕ → Seen) (least : Float) (wanted : Bool) (step : ℕ) (x : Scan) where
  pub sampled_out : (r : Scan) → 3155760000000000 ≤ x.next → r ≡ stopped false x → r ≡ sampled look least wanted step x
  unfolding sampled
  sampled_out r h e = e ∙ no _ _ _ (outside x.next h)

  asked : (y : Seen) (r : Scan) → x.next < 3155760000000000 → y ≡ look x.satellite x.next → r ≡ judged least wanted step x y
      → r ≡ sampled look least wanted step x
  unfolding sampled
  asked y r h ey e = e ∙ ap (judged least wanted step x) ey ∙ yes _ _ _ (inside x.next h)

  pub sampled_hit : (y : Seen) (b : Bool) (r : Scan) → x.next < 3155760000000000 → y ≡ look x.satellite x.next → b ≡ hits least wanted y.sine → b ≡ true
      → r ≡ stopped true x → r ≡ sampled look least wanted step x
  unfolding judged
  sampled_hit y b r h ey eb t e = asked y r h ey (e ∙ yes _ _ _ (sym eb ∙ t))

  pub sampled_on : (y : Seen) (b : Bool) (r : Scan) → x.next < 3155760000000000 → y ≡ look x.satellite x.next → b ≡ hits least wanted y.sine → b ≡ false
      → r ≡ passed step x y → r ≡ sampled look least wanted step x
  unfolding judged
  sampled_on y b r h ey eb t e = asked y r h ey (e ∙ no _ _ _ (sym eb ∙ t))

-- ── refusals ──

module _ (g : Geodetic) (least : Float) (step : ℕ) (r : Bool) (hr : r ≡ on_earth g) where
  abbrev bad : Bool → Bool
  bad z = not (z && between (dec 0 0) least (dec 90 0))

  abbrev long : Bool
  long = eqb step 0 || ltb 86400 step

  pub refused_25 : bad r ≡ true → 25 ≡ pass_refusal g least step
  unfolding pass_refusal
  refused_25 h = yes (bad (on_earth g)) 25 (cond long 26 0) (ap bad (sym hr) ∙ h)

  good : bad r ≡ false → cond long 26 0 ≡ pass_refusal g least step
  unfolding pass_refusal
  good h = no (bad (on_earth g)) 25 (cond long 26 0) (ap bad (sym hr) ∙ h)

  pub refused_26 : bad r ≡ false → step ≡ 0 → 26 ≡ pass_refusal g least step
  refused_26 h z = yes long 26 0 (rw (eq-eqb step 0 z)) ∙ good h

  pub refused_26_long : bad r ≡ false → 86400 < step → 26 ≡ pass_refusal g least step
  refused_26_long h l = yes long 26 0 (rw (ne_eqb step 0 (λ z. omega arith), lt-ltb 86400 step l)) ∙ good h

  pub refused_not : bad r ≡ false → (step ≡ 0 → ⊥) → step ≤ 86400 → 0 ≡ pass_refusal g least step
  refused_not h z l = no long 26 0 (rw (ne_eqb step 0 z, le-ltb 86400 step l)) ∙ good h

-- ── a call that is not refused ──

impossible : {A : Type 0} → ⊥ → A
impossible = elim [ ]

second : (t : Bool) (x y : ℕ) → (x ≡ 0 → ⊥) → cond t x y ≡ 0 → (t ≡ false) × (y ≡ 0)
second true x y n h = (impossible (n h), impossible (n h))
second false x y n h = (refl, h)

or_second : (a b : Bool) → (a || b) ≡ false → b ≡ false
or_second true b h = impossible (false≢true (sym h))
or_second false b h = h

pub short_step : (g : Geodetic) (least : Float) (step : ℕ) → pass_refusal g least step ≡ 0 → step ≤ 86400
unfolding pass_refusal
short_step g least step h =
    let a = second (not (on_earth g && between (dec 0 0) least (dec 90 0))) 25 _ (λ z. omega arith) h in
    let e = second (eqb step 0 || ltb 86400 step) 26 0 (λ z. omega arith) a.1 in
    ltb-false 86400 step (or_second (eqb step 0) (ltb 86400 step) e.0)
