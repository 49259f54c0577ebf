-- The highest point lies within the pass.
use mathlib.Core.Path.{◌≡◌, refl}
use mathlib.Core.Bool.{Bool, true, false, cond}
use Prim.Native.Nat.{ℕ, zero, suc, ◌+◌, ◌-◌, ◌/◌, ◌≤◌, max, min}
use native.Mathlib.Omega.{arith}
use lib.Ieee.{Float, lt}
use Rattle.pass_edges.specs.declared.Best.{Best}
use Rattle.pass_edges.specs.declared.Bracket.{Bracket}
use Rattle.pass_edges.specs.Search.{until, thirds, narrow, centre, climbed, summit}

module _ (f : ℕ → Float) (a b : ℕ) where
  abbrev Within : Bracket → Type 0
  Within x = (a ≤ x.lo) × ((x.lo ≤ x.hi) × (x.hi ≤ b))

  third_by : (x : Bracket) (w : ℕ) → w ≡ (x.hi - x.lo) / 3 → (t : Bool) → Within x → Within (cond t (record { lo = x.lo + w; hi = x.hi }) (record { lo = x.lo; hi = x.hi - w }))
  third_by x w hw true s = (omega (arith, s.0), (omega (arith, hw, s.1.0), s.1.1))
  third_by x w hw false s = (s.0, (omega (arith, hw, s.1.0), omega (arith, s.1.1)))

  third_step : (x : Bracket) → Within x → Within (thirds f x)
  unfolding thirds
  third_step x s =
      let w = (x.hi - x.lo) / 3 in
      third_by x ((x.hi - x.lo) / 3) refl (lt (f (x.lo + w)) (f (x.hi - w))) s

  by : (x y : Bracket) (q : Bool) → Within x → Within y → Within (cond q x y)
  by x y true s t = s
  by x y false s t = t

  kept : (k : ℕ) (x : Bracket) → Within x → Within (until narrow (thirds f) k x)
  unfolding until
  kept zero x s = s
  kept (suc k) x s =
      let t = third_step x s in
      by (thirds f x) (until narrow (thirds f) k (thirds f x)) (narrow (thirds f x)) t (kept k (thirds f x) t)

  centred : (x : Bracket) → Within x → (a ≤ centre x) × (centre x ≤ b)
  unfolding centre
  centred x s = (omega (arith, s.0), omega (arith, s.1.0, s.1.1))

  pub climbed_within : a ≤ b → (a ≤ climbed f a b) × (climbed f a b ≤ b)
  unfolding climbed
  climbed_within h = centred _ (kept 64 (record { lo = a; hi = b }) (omega arith, (h, omega arith)))

either : (a b x y : ℕ) (q : Bool) → (a ≤ x) × (x ≤ b) → (a ≤ y) × (y ≤ b) → (a ≤ cond q x y) × (cond q x y ≤ b)
either a b x y true s t = s
either a b x y false s t = t

pub summit_within : (f : ℕ → Float) (b : Best) (rise set step : ℕ) → rise ≤ b.at → b.at ≤ set
    → (rise ≤ summit f b rise set step) × (summit f b rise set step ≤ set)
unfolding summit
summit_within f b rise set step h l =
    let lo = max rise (b.at - step) in
    let hi = min set (b.at + step) in
    let c = climbed_within f (max rise (b.at - step)) (min set (b.at + step)) (omega arith) in
    either rise set (climbed f (max rise (b.at - step)) (min set (b.at + step))) b.at (lt b.sine (f (climbed f (max rise (b.at - step)) (min set (b.at + step)))))
    (omega (arith, c.0), omega (arith, c.1)) (h, l)
