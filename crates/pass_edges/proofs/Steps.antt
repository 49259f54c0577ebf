-- One halving, one third: what the code does is what the definition says.
use mathlib.Core.Path.{◌≡◌, refl, sym, ap, ◌∙◌}
use mathlib.Core.Bool.{Bool, true, false, cond}
use Prim.Native.Nat.{ℕ, ◌+◌, ◌-◌, ◌/◌, ◌≤◌, ◌<◌}
use native.Mathlib.Omega.{arith}
use lib.Dec.{leb}
use Rattle.std.specs.Int.{abs_diff}
use Rattle.std.proofs.lemmas.Bool.Decides.{nat_tests}
use lib.Ieee.{Float, lt}
use borrow.Author.Tests.{leb-true, leb-false, le-leb, lt-leb}
use Rattle.pass_edges.specs.declared.Ends.{Ends}
use Rattle.pass_edges.specs.declared.Bracket.{Bracket}
use Rattle.pass_edges.specs.Search.{middle, halved, neighbours, thirds, narrow}

pub yes : {A : Type 0} (b : Bool) (x y : A) → b ≡ true → x ≡ cond b x y
yes b x y h = sym (ap (λ z. cond z x y) h)

pub no : {A : Type 0} (b : Bool) (x y : A) → b ≡ false → y ≡ cond b x y
no b x y h = sym (ap (λ z. cond z x y) h)

-- ── one halving ──

module _ (p : ℕ → Bool) (e : Ends) (m : ℕ) (b : Bool) (hm : m ≡ middle e.below e.above) (hb : b ≡ p m) where
  abbrev m₀ : ℕ
  m₀ = middle e.below e.above

  pub halved_yes : b ≡ true → record { below = e.below; above = m } ≡ halved p e
  unfolding halved
  halved_yes t =
      ap (λ z. record { below = e.below; above = z }) hm
      ∙ yes (p m₀) (record { below = e.below; above = m₀ }) (record { below = m₀; above = e.above }) (sym (ap p hm) ∙ sym hb ∙ t)

  pub halved_no : b ≡ false → record { below = m; above = e.above } ≡ halved p e
  unfolding halved
  halved_no t =
      ap (λ z. record { below = z; above = e.above }) hm
      ∙ no (p m₀) (record { below = e.below; above = m₀ }) (record { below = m₀; above = e.above }) (sym (ap p hm) ∙ sym hb ∙ t)

same_by : (a b c d : ℕ) (t : Bool) → leb a b ≡ t → (a ≤ b → c ≤ d) → (b < a → d < c) → leb a b ≡ leb c d
same_by a b c d true h f g = h ∙ sym (le-leb c d (f (leb-true a b h)))
same_by a b c d false h f g = h ∙ sym (lt-leb c d (g (leb-false a b h)))

same : (a b c d : ℕ) → (a ≤ b → c ≤ d) → (b < a → d < c) → leb a b ≡ leb c d
same a b c d f g = same_by a b c d (leb a b) refl f g

pub near : (e : Ends) (d : ℕ) → d ≡ abs_diff e.below e.above → leb d 1 ≡ neighbours e
unfolding neighbours
near e d h = grind (arith, nat_tests)

-- ── one third ──

module _ (f : ℕ → Float) (b : Bracket) (w : ℕ) (x y : Float) (hw : w ≡ b.hi - b.lo) (hx : x ≡ f (b.lo + w / 3)) (hy : y ≡ f (b.hi - w / 3)) where
  abbrev less : ℕ → Bool
  less v = lt (f (b.lo + v / 3)) (f (b.hi - v / 3))

  abbrev right : ℕ → Bracket
  right v = record { lo = b.lo + v / 3; hi = b.hi }

  abbrev left : ℕ → Bracket
  left v = record { lo = b.lo; hi = b.hi - v / 3 }

  found : (t : Bool) → lt x y ≡ t → less (b.hi - b.lo) ≡ t
  found t h = ap less (sym hw) ∙ sym (ap (λ z. lt z (f (b.hi - w / 3))) hx) ∙ sym (ap (λ z. lt x z) hy) ∙ h

  pub thirds_yes : lt x y ≡ true → right w ≡ thirds f b
  unfolding thirds
  thirds_yes h = ap right hw ∙ yes (less (b.hi - b.lo)) (right (b.hi - b.lo)) (left (b.hi - b.lo)) (found true h)

  pub thirds_no : lt x y ≡ false → left w ≡ thirds f b
  unfolding thirds
  thirds_no h = ap left hw ∙ no (less (b.hi - b.lo)) (right (b.hi - b.lo)) (left (b.hi - b.lo)) (found false h)

pub narrowed : (b : Bracket) (w : ℕ) → w ≡ b.hi - b.lo → leb w 1000 ≡ narrow b
unfolding narrow
narrowed b w h = same w 1000 b.hi (b.lo + 1000) (λ l. omega (arith, h)) (λ l. omega (arith, h))
