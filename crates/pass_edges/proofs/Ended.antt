-- The loops, ended, and the highest point.
use mathlib.Core.Path.{◌≡◌, sym, ap, ◌∙◌}
use mathlib.Core.Bool.{Bool, true, false}
use Prim.Native.Nat.{ℕ, ◌+◌, ◌-◌, ◌≤◌, ◌<◌, max, min}
use lib.Ieee.{Float, lt}
use Rattle.pass_edges.specs.declared.Best.{Best}
use Rattle.pass_edges.specs.declared.Ends.{Ends}
use Rattle.pass_edges.specs.declared.Bracket.{Bracket}
use Rattle.pass_edges.specs.Search.{halved, neighbours, edge, thirds, narrow, centre, climbed, summit}
use Rattle.pass_edges.proofs.Loop.{Left, early, late}
use Rattle.pass_edges.proofs.Steps.{yes, no}

module _ (p : ℕ → Bool) (below above : ℕ) where
  abbrev ends : Ends
  ends = record { below = below; above = above }

  pub edge_early : (k : ℕ) (x : Ends) → Left neighbours (halved p) 37 ends k x → k < 37 → (y : Ends) → y ≡ halved p x → neighbours y ≡ true → y.above ≡ edge p below above
  unfolding edge
  edge_early k x l h y e t = ap (λ (z : Ends). z.above) (early neighbours (halved p) 37 ends k x l h y e t).0

  pub edge_late : (k : ℕ) (x : Ends) → Left neighbours (halved p) 37 ends k x → 37 ≤ k → x.above ≡ edge p below above
  unfolding edge
  edge_late k x l h = ap (λ (z : Ends). z.above) (late neighbours (halved p) 37 ends k x l h).0

module _ (f : ℕ → Float) (lo hi : ℕ) where
  abbrev whole : Bracket
  whole = record { lo = lo; hi = hi }

  pub climb_early : (k : ℕ) (x : Bracket) → Left narrow (thirds f) 64 whole k x → k < 64 → (y : Bracket) → y ≡ thirds f x → narrow y ≡ true → (r : ℕ) → r ≡ centre y → r ≡ climbed f lo hi
  unfolding climbed
  climb_early k x l h y e t r c = c ∙ ap centre (early narrow (thirds f) 64 whole k x l h y e t).0

  pub climb_late : (k : ℕ) (x : Bracket) → Left narrow (thirds f) 64 whole k x → 64 ≤ k → (r : ℕ) → r ≡ centre x → r ≡ climbed f lo hi
  unfolding climbed
  climb_late k x l h r c = c ∙ ap centre (late narrow (thirds f) 64 whole k x l h).0

module _ (f : ℕ → Float) (b : Best) (rise set step lo hi m : ℕ) (y : Float) (hlo : lo ≡ max rise (b.at - step)) (hhi : hi ≡ min set (b.at + step)) (hm : m ≡ climbed f lo hi) (hy : y ≡ f m) where
  abbrev m₀ : ℕ
  m₀ = climbed f (max rise (b.at - step)) (min set (b.at + step))

  there : m ≡ m₀
  there = hm ∙ ap (λ z. climbed f z hi) hlo ∙ ap (climbed f (max rise (b.at - step))) hhi

  found : (t : Bool) → lt b.sine y ≡ t → lt b.sine (f m₀) ≡ t
  found t h = ap (λ z. lt b.sine (f z)) (sym there) ∙ ap (λ z. lt b.sine z) (sym hy) ∙ h

  pub summit_yes : lt b.sine y ≡ true → m ≡ summit f b rise set step
  unfolding summit
  summit_yes h = there ∙ yes (lt b.sine (f m₀)) m₀ b.at (found true h)

  pub summit_no : lt b.sine y ≡ false → b.at ≡ summit f b rise set step
  unfolding summit
  summit_no h = no (lt b.sine (f m₀)) m₀ b.at (found false h)
