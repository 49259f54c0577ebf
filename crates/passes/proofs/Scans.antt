-- A scan, ended.
use mathlib.Core.Path.{◌≡◌, ap, ◌∙◌}
use mathlib.Core.Bool.{Bool, true}
use Prim.Native.Nat.{ℕ, ◌-◌, ◌≤◌, ◌<◌}
use lib.Ieee.{Float}
use Rattle.geodetic.specs.declared.Site.{Site}
use Rattle.opening.specs.declared.opening.Satellite.{Satellite}
use Rattle.sightings.specs.Sightings.{seen_at}
use Rattle.passes.specs.declared.Scan.{Scan}
use Rattle.pass_edges.specs.Search.{until, left_over}
use Rattle.pass_edges.proofs.Loop.{Left, early, late}
use Rattle.passes.specs.Samples.{begin, sampled, stops}
use Rattle.passes.specs.Passes.{scanned, scans_left}

module _ (site : Site) (least : Float) (wanted : Bool) (step n : ℕ) (s : Satellite) (t : ℕ) (x₀ : Scan) (h₀ : x₀ ≡ begin s t) where
  abbrev next : Scan → Scan
  next = sampled (seen_at site) least wanted step

  abbrev Scanning : ℕ → Scan → Type 0
  Scanning k x = Left stops next n x₀ k x

  told : (k : ℕ) (y : Scan) → (y ≡ until stops next n x₀) × (k ≡ left_over stops next n x₀)
      → (k ≡ scans_left site least wanted step n s t) × (y ≡ scanned site least wanted step n s t)
  unfolding scanned scans_left
  told k y e = (e.1 ∙ ap (left_over stops next n) h₀, e.0 ∙ ap (until stops next n) h₀)

  pub scan_early : (k : ℕ) (x : Scan) → Scanning k x → k < n → (y : Scan) → y ≡ next x → y.stop ≡ true
      → (n - k ≡ scans_left site least wanted step n s t) × (y ≡ scanned site least wanted step n s t)
  scan_early k x l h y e b = told (n - k) y (early stops next n x₀ k x l h y e b)

  pub scan_late : (k : ℕ) (x : Scan) → Scanning k x → n ≤ k
      → (0 ≡ scans_left site least wanted step n s t) × (x ≡ scanned site least wanted step n s t)
  scan_late k x l h = told 0 x (late stops next n x₀ k x l h)
