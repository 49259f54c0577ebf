-- An edge found by halving has its two sides a microsecond apart.
use mathlib.Core.Path.{◌≡◌, refl, sym, ap, ◌∙◌}
use mathlib.Core.Logic.{◌⊎◌, inl, inr}
use mathlib.Core.Bool.{Bool, true, false, cond, ◌&&◌, false≢true}
use Prim.Native.Nat.{ℕ, zero, suc, ◌+◌, ◌-◌, ◌*◌, ◌/◌, ◌^◌, ◌≤◌, ◌<◌}
use native.Mathlib.Omega.{arith}
use native.Mathlib.Nat.{pow-suc}
use lib.Dec.{leb, ltb}
use borrow.Author.Tests.{ltb-true, ltb-false, leb-true}
use Rattle.pass_edges.specs.declared.Ends.{Ends}
use Rattle.pass_edges.specs.Search.{until, middle, halved, neighbours, edge}

twice : (k : ℕ) → 2 ^ suc k ≡ 2 * 2 ^ k
twice k = rw pow-suc (omega arith)

pub impossible : {A : Type 0} → ⊥ → A
impossible = elim [ ]

-- values of p differ: so do the instants
pub differ : (p : ℕ → Bool) (a b : ℕ) → p a ≡ true → p b ≡ false → a ≡ b → ⊥
differ p a b ha hb e = false≢true (sym hb ∙ sym (ap p e) ∙ ha)

less_by : (a b : ℕ) (q : Bool) → ltb a b ≡ q → a ≤ b → (a ≡ b → ⊥) → a < b
less_by a b true h l n = ltb-true a b h
less_by a b false h l n = let g : b ≤ a = ltb-false a b h in let e : a ≡ b = omega (arith, g, l) in impossible (n e)

pub less_than : (a b : ℕ) → a ≤ b → (a ≡ b → ⊥) → a < b
less_than a b l n = less_by a b (ltb a b) refl l n

split_by : (a b : ℕ) (q : Bool) → ltb b a ≡ q → (a ≤ b) ⊎ (b < a)
split_by a b true h = inr (ltb-true b a h)
split_by a b false h = inl (ltb-false b a h)

pub split : (a b : ℕ) → (a ≤ b) ⊎ (b < a)
split a b = split_by a b (ltb b a) refl

and_first : (a b : Bool) → (a && b) ≡ true → a ≡ true
and_first true b h = refl
and_first false b h = h

and_second : (a b : Bool) → (a && b) ≡ true → b ≡ true
and_second true b h = h
and_second false b h = impossible (false≢true h)

module _ (p : ℕ → Bool) (a b : ℕ) where
  -- ── upward: not above at the earlier end ──

  pub record Rising (k : ℕ) (e : Ends) : Type 0 where
    pub low : p e.below ≡ false
    pub high : p e.above ≡ true
    pub from : a ≤ e.below
    pub up : e.below < e.above
    pub to : e.above ≤ b
    pub gap : e.above ≤ e.below + 2 ^ k

  rise_half : (k : ℕ) (e : Ends) (m : ℕ) → m ≡ (e.below + e.above) / 2 → (t : Bool) → p m ≡ t → Rising (suc k) e
      → Rising k (cond t (record { below = e.below; above = m }) (record { below = m; above = e.above }))
  rise_half k e m hm true h r =
      let w : 2 ^ suc k ≡ 2 * 2 ^ k = twice k in
      let l : e.below ≤ m = omega (arith, hm, r.up) in
      record {
        low = r.low;
        high = h;
        from = r.from;
        up = less_than e.below m l (λ z. differ p m e.below h r.low (sym z));
        to = omega (arith, hm, r.up, r.to);
        gap = omega (arith, hm, r.gap, w);
      }
  rise_half k e m hm false h r =
      let w : 2 ^ suc k ≡ 2 * 2 ^ k = twice k in
      record {
        low = h;
        high = r.high;
        from = omega (arith, hm, r.up, r.from);
        up = omega (arith, hm, r.up);
        to = r.to;
        gap = omega (arith, hm, r.gap, w);
      }

  rise_step : (k : ℕ) (e : Ends) → Rising (suc k) e → Rising k (halved p e)
  unfolding halved middle
  rise_step k e r = rise_half k e ((e.below + e.above) / 2) refl (p ((e.below + e.above) / 2)) refl r

  rise_near : (k : ℕ) (e : Ends) → neighbours e ≡ true → Rising k e → Rising 0 e
  unfolding neighbours
  rise_near k e h r =
      record {
        low = r.low;
        high = r.high;
        from = r.from;
        up = r.up;
        to = r.to;
        gap = leb-true e.above (e.below + 1) (and_second (leb e.below (e.above + 1)) (leb e.above (e.below + 1)) h);
      }

  rise_by : (k : ℕ) (e x : Ends) (q : Bool) → neighbours e ≡ q → Rising k e → Rising 0 x → Rising 0 (cond q e x)
  rise_by k e x true h r s = rise_near k e h r
  rise_by k e x false h r s = s

  risen : (k : ℕ) (e : Ends) → Rising k e → Rising 0 (until neighbours (halved p) k e)
  unfolding until
  risen zero e r = r
  risen (suc k) e r =
      let s = rise_step k e r in
      rise_by k (halved p e) (until neighbours (halved p) k (halved p e)) (neighbours (halved p e)) refl s (risen k (halved p e) s)

  rise_end : (e : Ends) → Rising 0 e → (p e.above ≡ true) × ((p (e.above - 1) ≡ false) × (e.above ≤ b))
  rise_end e r =
      let g : e.above ≤ e.below + 1 = r.gap in
      let w : e.above - 1 ≡ e.below = omega (arith, g, r.up) in
      (r.high, (ap p w ∙ r.low, r.to))

  pub edge_rises : p a ≡ false → p b ≡ true → a < b → b ≤ a + 2 ^ 37 → (p (edge p a b) ≡ true) × ((p (edge p a b - 1) ≡ false) × (edge p a b ≤ b))
  unfolding edge
  edge_rises ha hb l g =
      rise_end (until neighbours (halved p) 37 (record { below = a; above = b }))
      (risen 37 (record { below = a; above = b }) (record { low = ha; high = hb; from = omega arith; up = l; to = omega arith; gap = g }))

  -- ── downward: not above at the later end ──

  pub record Falling (k : ℕ) (e : Ends) : Type 0 where
    pub low : p e.below ≡ false
    pub high : p e.above ≡ true
    pub from : a ≤ e.above
    pub up : e.above < e.below
    pub gap : e.below ≤ e.above + 2 ^ k

  fall_half : (k : ℕ) (e : Ends) (m : ℕ) → m ≡ (e.below + e.above) / 2 → (t : Bool) → p m ≡ t → Falling (suc k) e
      → Falling k (cond t (record { below = e.below; above = m }) (record { below = m; above = e.above }))
  fall_half k e m hm true h r =
      let w : 2 ^ suc k ≡ 2 * 2 ^ k = twice k in
      record {
        low = r.low;
        high = h;
        from = omega (arith, hm, r.up, r.from);
        up = omega (arith, hm, r.up);
        gap = omega (arith, hm, r.gap, w);
      }
  fall_half k e m hm false h r =
      let w : 2 ^ suc k ≡ 2 * 2 ^ k = twice k in
      let l : e.above ≤ m = omega (arith, hm, r.up) in
      record {
        low = h;
        high = r.high;
        from = r.from;
        up = less_than e.above m l (λ z. differ p e.above m r.high h z);
        gap = omega (arith, hm, r.gap, w);
      }

  fall_step : (k : ℕ) (e : Ends) → Falling (suc k) e → Falling k (halved p e)
  unfolding halved middle
  fall_step k e r = fall_half k e ((e.below + e.above) / 2) refl (p ((e.below + e.above) / 2)) refl r

  fall_near : (k : ℕ) (e : Ends) → neighbours e ≡ true → Falling k e → Falling 0 e
  unfolding neighbours
  fall_near k e h r =
      record {
        low = r.low;
        high = r.high;
        from = r.from;
        up = r.up;
        gap = leb-true e.below (e.above + 1) (and_first (leb e.below (e.above + 1)) (leb e.above (e.below + 1)) h);
      }

  fall_by : (k : ℕ) (e x : Ends) (q : Bool) → neighbours e ≡ q → Falling k e → Falling 0 x → Falling 0 (cond q e x)
  fall_by k e x true h r s = fall_near k e h r
  fall_by k e x false h r s = s

  fallen : (k : ℕ) (e : Ends) → Falling k e → Falling 0 (until neighbours (halved p) k e)
  unfolding until
  fallen zero e r = r
  fallen (suc k) e r =
      let s = fall_step k e r in
      fall_by k (halved p e) (until neighbours (halved p) k (halved p e)) (neighbours (halved p e)) refl s (fallen k (halved p e) s)

  fall_end : (e : Ends) → Falling 0 e → (p e.above ≡ true) × ((p (e.above + 1) ≡ false) × (a ≤ e.above))
  fall_end e r =
      let g : e.below ≤ e.above + 1 = r.gap in
      let w : e.above + 1 ≡ e.below = omega (arith, g, r.up) in
      (r.high, (ap p w ∙ r.low, r.from))

  pub edge_sets : p a ≡ true → p b ≡ false → a < b → b ≤ a + 2 ^ 37 → (p (edge p b a) ≡ true) × ((p (edge p b a + 1) ≡ false) × (a ≤ edge p b a))
  unfolding edge
  edge_sets ha hb l g =
      fall_end (until neighbours (halved p) 37 (record { below = b; above = a }))
      (fallen 37 (record { below = b; above = a }) (record { low = hb; high = ha; from = omega arith; up = l; gap = g }))

-- ── at a sample ──

module _ (p : ℕ → Bool) (a : ℕ) where
  abbrev At : Ends → Type 0
  At e = (e.below ≡ a) × (e.above ≡ a)

  at_half : (e : Ends) (m : ℕ) → m ≡ (e.below + e.above) / 2 → (t : Bool) → At e → At (cond t (record { below = e.below; above = m }) (record { below = m; above = e.above }))
  at_half e m hm true s = (s.0, omega (arith, hm, s.0, s.1))
  at_half e m hm false s = (omega (arith, hm, s.0, s.1), s.1)

  at_step : (e : Ends) → At e → At (halved p e)
  unfolding halved middle
  at_step e s = at_half e ((e.below + e.above) / 2) refl (p ((e.below + e.above) / 2)) s

  at_by : (e x : Ends) (q : Bool) → At e → At x → At (cond q e x)
  at_by e x true s t = s
  at_by e x false s t = t

  stays : (k : ℕ) (e : Ends) → At e → At (until neighbours (halved p) k e)
  unfolding until
  stays zero e s = s
  stays (suc k) e s =
      let t = at_step e s in
      at_by (halved p e) (until neighbours (halved p) k (halved p e)) (neighbours (halved p e)) t (stays k (halved p e) t)

  pub edge_same : edge p a a ≡ a
  unfolding edge
  edge_same = (stays 37 (record { below = a; above = a }) (refl, refl)).1
