-- The search and the call, put together from their parts.
use mathlib.Core.Path.{◌≡◌, ap, ◌∙◌}
use mathlib.Core.Bool.{true, false, cond}
use Prim.Native.Nat.{ℕ, ◌*◌}
use lib.Dec.{eqb}
use lib.Ieee.{Float}
use borrow.Author.Tests.{eq-eqb, ne_eqb}
use Rattle.elementary.specs.Trig.{sin_of}
use Rattle.instant.specs.Quantity.{radians_of}
use Rattle.geodetic.specs.declared.Geodetic.{Geodetic}
use Rattle.geodetic.specs.declared.Site.{Site}
use Rattle.geodetic.specs.Geodetic.{site_of}
use Rattle.opening.specs.declared.opening.Satellite.{Satellite}
use Rattle.passes.specs.declared.Scan.{Scan}
use Rattle.passes.specs.declared.Pass.{Pass}
use Rattle.std.specs.Prelude.{Err, None, Ok, Option, Result, Some}
use Rattle.passes.specs.Passes.{pass_refusal, scanned, scans_left, pass_of, searched, next_pass}
use Rattle.pass_edges.proofs.Steps.{yes, no}

module _ (site : Site) (least : Float) (step n : ℕ) (s : Satellite) (t : ℕ) (up : Scan) (k : ℕ) (hup : up ≡ scanned site least true step n s t) (hk : k ≡ scans_left site least true step n s t) where
  abbrev going : Scan → ℕ → Scan
  going u j = scanned site least false step j u.satellite u.next

  abbrev rest : Scan → ℕ → ℕ
  rest u j = scans_left site least false step j u.satellite u.next

  abbrev answer : Scan → ℕ → Result (Option Pass) ℕ
  answer u j = cond u.found (Ok (Some (pass_of site least step u (going u j) (rest u j)))) (Ok None)

  whole : answer up k ≡ searched site least step n s t
  unfolding searched
  whole = ap (λ z. answer z k) hup ∙ ap (answer (scanned site least true step n s t)) hk

  pub search_found : (down : Scan) (left : ℕ) (p : Pass) → up.found ≡ true → down ≡ going up k → left ≡ rest up k → p ≡ pass_of site least step up down left
      → Ok (Some p) ≡ searched site least step n s t
  search_found down left p h hd hl hp =
      ap (λ q. Ok (Some q)) (hp ∙ ap (λ z. pass_of site least step up z left) hd ∙ ap (pass_of site least step up (going up k)) hl)
      ∙ yes up.found (Ok (Some (pass_of site least step up (going up k) (rest up k)))) (Ok None) h
      ∙ whole

  pub search_nothing : up.found ≡ false → (Ok None) ≡ searched site least step n s t
  search_nothing h = no up.found (Ok (Some (pass_of site least step up (going up k) (rest up k)))) (Ok None) h ∙ whole

module _ (s : Satellite) (g : Geodetic) (least : Float) (t step n r : ℕ) (hr : r ≡ pass_refusal g least step) where
  abbrev call : ℕ → Result (Option Pass) ℕ
  call z = cond (eqb z 0) (searched (site_of g) (sin_of (radians_of least)) (step * 1000000) n s t) (Err z)

  all : call r ≡ next_pass s g least t step n
  unfolding next_pass
  all = ap call hr

  pub pass_refused : (r ≡ 0 → ⊥) → Err r ≡ next_pass s g least t step n
  pass_refused h = no (eqb r 0) (searched (site_of g) (sin_of (radians_of least)) (step * 1000000) n s t) (Err r) (ne_eqb r 0 h) ∙ all

  pub pass_searched : (site : Site) (x y : Float) (z : Result (Option Pass) ℕ) → r ≡ 0 → site ≡ site_of g → x ≡ radians_of least → y ≡ sin_of x → z ≡ searched site y (step * 1000000) n s t
      → z ≡ next_pass s g least t step n
  pass_searched site x y z h hs hx hy hz =
      hz
      ∙ ap (λ v. searched v y (step * 1000000) n s t) hs
      ∙ ap (λ v. searched (site_of g) v (step * 1000000) n s t) (hy ∙ ap sin_of hx)
      ∙ yes (eqb r 0) (searched (site_of g) (sin_of (radians_of least)) (step * 1000000) n s t) (Err r) (eq-eqb r 0 h)
      ∙ all
