-- The passes of a satellite newly opened.
use mathlib.Core.Path.{◌≡◌, refl, sym, ap, ◌∙◌, subst}
use mathlib.Core.Logic.{◌⊎◌, inl, inr}
use mathlib.Core.Bool.{Bool, true, false, cond, not, false≢true}
use Prim.Native.Nat.{ℕ, zero, suc, ◌+◌, ◌-◌, ◌*◌, ◌^◌, ◌≤◌, ◌<◌, max, min}
use native.Mathlib.Nat.{eq-or-lt_of_le, le_of_suc-le-suc, mul-le-mul_right}
use native.Mathlib.Omega.{arith}
use lib.Dec.{eqb}
use lib.Ieee.{Float, lt}
use borrow.Author.Tests.{eqb-true, eqb-false}
use Rattle.elementary.specs.Trig.{sin_of}
use Rattle.instant.specs.Quantity.{radians_of}
use Rattle.instant.specs.Calendar.{in_calendar}
use Rattle.instant.proofs.Calendar.{inside, below}
use Rattle.satellite.specs.declared.Model.{Model}
use Rattle.resonance.specs.declared.place.Side.TheVariants.{Forward}
use Rattle.resonance.specs.declared.place.Place.{Place}
use Rattle.resonance.proofs.Iterates.{position_zero}
use Rattle.sgp4.specs.Sgp4.{integrator_of}
use Rattle.geodetic.specs.declared.Geodetic.{Geodetic}
use Rattle.geodetic.specs.declared.Site.{Site}
use Rattle.geodetic.specs.Geodetic.{site_of}
use Rattle.opening.specs.declared.opening.Satellite.{Satellite}
use Rattle.horizon.specs.Horizon.{nadir}
use Rattle.sightings.specs.declared.Seen.{Seen}
use Rattle.sightings.specs.Sightings.{seen_at}
use Rattle.sequences.specs.Demand3.{none}
use Rattle.sequences.proofs.Demand3.{satellite_at, opened_place}
use Rattle.pass_edges.specs.declared.Best.{Best}
use Rattle.passes.specs.declared.Scan.{Scan}
use Rattle.std.specs.Prelude.{Err, None, Ok, Some}
use Rattle.pass_edges.specs.Search.{sine_at, above_at, until, left_over, edge, climbed, summit}
use Rattle.passes.specs.Samples.{hits, higher, begin, stopped, passed, judged, sampled, stops}
use Rattle.passes.specs.Passes.{pass_refusal, scanned, scans_left, after, pass_of, searched, next_pass}
use Rattle.passes.proofs.Steps.{short_step}
use Rattle.pass_claims.specs.Claims.{Refined, Onward, First, NoneAbove, Right, OpenedPasses}
use Rattle.pass_claims.proofs.Edges.{impossible, differ, less_than, split, edge_rises, edge_sets, edge_same}
use Rattle.pass_claims.proofs.Tops.{summit_within}
use Rattle.pass_claims.proofs.Order.{lt_trans, lt_self, still_not}
use Rattle.pass_claims.proofs.Held.{Held, same_sine, still_held}

-- ── what every step of a scan keeps, the scan keeps ──

kept_by : {A : Type 0} (P : A → Type 0) (x y : A) (q : Bool) → P x → P y → P (cond q x y)
kept_by P x y true s t = s
kept_by P x y false s t = t

kept : {A : Type 0} (P : A → Type 0) (stop : A → Bool) (next : A → A) → ((x : A) → P x → P (next x)) → (n : ℕ) (x : A) → P x → P (until stop next n x)
unfolding until
kept P stop next h zero x s = s
kept P stop next h (suc n) x s = let t = h x s in kept_by P (next x) (until stop next n (next x)) (stop (next x)) t (kept P stop next h n (next x) t)

module _ (site : Site) (k : Model) (least : Float) (step : ℕ) where
  -- the satellite newly opened, asked one instant alone
  abbrev f : ℕ → Float
  f = sine_at site (satellite_at k none)

  abbrev p : ℕ → Bool
  p = above_at site least (satellite_at k none)

  told : (s : Satellite) (t : ℕ) (q : Bool) → Held k s → lt least (seen_at site s t).sine ≡ q → p t ≡ q
  told s t q h e = sym (ap (lt least) (same_sine site k s t h)) ∙ e

  -- ── to the first sample above ──

  pub record Up (x : Scan) : Type 0 where
    pub held : Held k x.satellite
    pub order : x.last ≤ x.next
    pub near : x.next ≤ x.last + step
    pub below : (x.last ≡ x.next) ⊎ (p x.last ≡ false)
    pub hit : x.found ≡ true → p x.next ≡ true

  up_judged : (x : Scan) (q : Bool) → lt least (seen_at site x.satellite x.next).sine ≡ q → Up x
      → Up (cond q (stopped true x) (passed step x (seen_at site x.satellite x.next)))
  unfolding stopped passed
  up_judged x true e u =
      record { held = u.held; order = u.order; near = u.near; below = u.below; hit = λ h. told x.satellite x.next true u.held e }
  up_judged x false e u =
      record {
        held = still_held site k x.satellite x.next u.held;
        order = omega arith;
        near = omega arith;
        below = inr (told x.satellite x.next false u.held e);
        hit = λ h. impossible (false≢true h);
      }

  up_out : (x : Scan) → Up x → Up (stopped false x)
  unfolding stopped
  up_out x u = record { held = u.held; order = u.order; near = u.near; below = u.below; hit = λ h. impossible (false≢true h) }

  up_step : (x : Scan) → Up x → Up (sampled (seen_at site) least true step x)
  unfolding sampled judged hits
  up_step x u =
      kept_by Up (cond (lt least (seen_at site x.satellite x.next).sine) (stopped true x) (passed step x (seen_at site x.satellite x.next))) (stopped false x)
      (in_calendar x.next) (up_judged x (lt least (seen_at site x.satellite x.next).sine) refl u) (up_out x u)

  up_begin : (s : Satellite) (t : ℕ) → Held k s → Up (begin s t)
  unfolding begin
  up_begin s t h = record { held = h; order = omega arith; near = omega arith; below = inl refl; hit = λ e. impossible (false≢true e) }

  pub upward : (n : ℕ) (s : Satellite) (t : ℕ) → Held k s → Up (scanned site least true step n s t)
  unfolding scanned
  upward n s t h = kept Up stops (sampled (seen_at site) least true step) up_step n (begin s t) (up_begin s t h)

  -- ── the samples of a scan: sample i is at(i) ──

  module _ (t : ℕ) (wanted : Bool) where
    abbrev at : ℕ → ℕ
    at i = t + i * step

    abbrev wants : Bool → Bool
    wants q = cond wanted q (not q)

    abbrev more : ℕ → Scan → Scan
    more n x = until stops (sampled (seen_at site) least wanted step) n x

    abbrev rest : ℕ → Scan → ℕ
    rest n x = left_over stops (sampled (seen_at site) least wanted step) n x

    -- From sample j a scan of n samples reached sample m: none before it is as wanted. It found it, with so many left, or it went through all, or through the calendar.
    pub record Reached (n j : ℕ) (z : Scan) (left : ℕ) : Type 0 where
      pub m : ℕ
      pub next : z.next ≡ at m
      pub missed : (i : ℕ) → j ≤ i → i < m → wants (p (at i)) ≡ false
      pub counted : z.found ≡ true → left + m ≡ n + j
      pub ended : z.found ≡ false → (m ≡ n + j) ⊎ (in_calendar (at m) ≡ false)

    missed_by : (j m i : ℕ) → wants (p (at j)) ≡ false → ((i : ℕ) → suc j ≤ i → i < m → wants (p (at i)) ≡ false) → (j ≡ i) ⊎ (j < i) → i < m → wants (p (at i)) ≡ false
    missed_by j m i w h (inl e) l = ap (λ (z : ℕ). wants (p (at z))) (sym e) ∙ w
    missed_by j m i w h (inr g) l = h i (omega (arith, g)) l

    ended_by : (n j m : ℕ) → (m ≡ n + suc j) ⊎ (in_calendar (at m) ≡ false) → (m ≡ suc n + j) ⊎ (in_calendar (at m) ≡ false)
    ended_by n j m (inl e) = inl (omega (arith, e))
    ended_by n j m (inr h) = inr h

    by_sample : (n j : ℕ) (x : Scan) (y : Seen) (c q : Bool) → x.next ≡ at j → in_calendar (at j) ≡ c → wants (p (at j)) ≡ q
        → Reached n (suc j) (more n (passed step x y)) (rest n (passed step x y))
        → let z = cond c (cond q (stopped true x) (passed step x y)) (stopped false x) in Reached (suc n) j (cond z.stop z (more n z)) (cond z.stop (suc n) (rest n z))
    unfolding stopped passed
    by_sample n j x y false q e ec eq r =
        record {
          m = j;
          next = e;
          missed = λ i a b. absurd (omega (arith, a, b));
          counted = λ h. impossible (false≢true h);
          ended = λ h. inr ec;
        }
    by_sample n j x y true true e ec eq r =
        record {
          m = j;
          next = e;
          missed = λ i a b. absurd (omega (arith, a, b));
          counted = λ h. refl;
          ended = λ h. impossible (false≢true (sym h));
        }
    by_sample n j x y true false e ec eq r =
        record {
          m = r.m;
          next = r.next;
          missed = λ i a b. missed_by j r.m i eq r.missed (eq-or-lt_of_le a) b;
          counted = λ h. omega (arith, r.counted h);
          ended = λ h. ended_by n j r.m (r.ended h);
        }

    pub reaches : (n j : ℕ) (x : Scan) → Held k x.satellite → x.next ≡ at j → x.found ≡ false → Reached n j (more n x) (rest n x)
    unfolding until left_over sampled judged hits passed
    reaches zero j x h e g =
        record {
          m = j;
          next = e;
          missed = λ i a b. absurd (omega (arith, a, b));
          counted = λ f. impossible (false≢true (sym g ∙ f));
          ended = λ f. inl (omega arith);
        }
    reaches (suc n) j x h e g =
        let y = seen_at site x.satellite x.next in
        let e' : x.next + step ≡ at (suc j) = omega (arith, e) in
        by_sample n j x y (in_calendar x.next) (wants (lt least y.sine)) e (ap in_calendar (sym e))
        (ap wants (ap p (sym e) ∙ told x.satellite x.next (lt least y.sine) h refl))
        (reaches n (suc j) (passed step x y) (still_held site k x.satellite x.next h) e' refl)

    -- later than the calendar at one sample, so at those after it
    over : (m i : ℕ) → m ≤ i → in_calendar (at m) ≡ false → in_calendar (at i) ≡ true → ⊥
    over m i l h z =
        let g : m * step ≤ i * step = mul-le-mul_right step l in
        let e : at m < 3155760000000000 = omega (arith, below (at i) z, g) in
        false≢true (sym h ∙ inside (at m) e)

  -- ── no sample above, of those from t on ──

  module _ (t : ℕ) where
    begins : (wanted : Bool) (n : ℕ) (s : Satellite) → Held k s → Reached t wanted n 0 (scanned site least wanted step n s t) (scans_left site least wanted step n s t)
    unfolding scanned scans_left begin
    begins wanted n s h = let e : t ≡ t + 0 * step = omega arith in reaches t wanted n 0 (begin s t) h e refl

    clear_by : (n i m : ℕ) → i < n → in_calendar (t + i * step) ≡ true → (m ≡ n + 0) ⊎ (in_calendar (t + m * step) ≡ false) → (i < m → p (t + i * step) ≡ false) → (m ≤ i) ⊎ (i < m)
        → p (t + i * step) ≡ false
    clear_by n i m l z d h (inr g) = h g
    clear_by n i m l z (inl e) h (inl g) = absurd (omega (arith, e, l, g))
    clear_by n i m l z (inr c) h (inl g) = impossible (over t true m i g c z)

    pub all_below : (n : ℕ) (s : Satellite) → Held k s → (scanned site least true step n s t).found ≡ false → NoneAbove p t step n
    all_below n s h f i l z =
        let r = begins true n s h in
        clear_by n i r.m l z (r.ended f) (λ g. r.missed i (omega arith) g) (split r.m i)

  -- ── to the first sample not above, from the instant u ──

  module _ (u : ℕ) where
    pub record Down (x : Scan) : Type 0 where
      pub held : Held k x.satellite
      pub high : p x.last ≡ true
      pub order : x.last ≤ x.next
      pub near : x.next ≤ x.last + step
      pub from : u ≤ x.best.at
      pub to : x.best.at ≤ x.last
      pub hit : x.found ≡ true → p x.next ≡ false

    best_from : (b : Best) (t : ℕ) (q : Bool) (y : Float) → u ≤ b.at → b.at ≤ t
        → (u ≤ (cond q (record { at = t; sine = y }) b).at) × ((cond q (record { at = t; sine = y }) b).at ≤ t)
    best_from b t true y h l = (omega (arith, h, l), omega arith)
    best_from b t false y h l = (h, l)

    down_judged : (x : Scan) (q : Bool) → lt least (seen_at site x.satellite x.next).sine ≡ q → Down x
        → Down (cond (not q) (stopped true x) (passed step x (seen_at site x.satellite x.next)))
    unfolding stopped passed higher
    down_judged x true e d =
        let y = (seen_at site x.satellite x.next).sine in
        let b = best_from x.best x.next (lt x.best.sine y) y d.from (omega (arith, d.to, d.order)) in
        record {
          held = still_held site k x.satellite x.next d.held;
          high = told x.satellite x.next true d.held e;
          order = omega arith;
          near = omega arith;
          from = b.0;
          to = b.1;
          hit = λ h. impossible (false≢true h);
        }
    down_judged x false e d =
        record {
          held = d.held;
          high = d.high;
          order = d.order;
          near = d.near;
          from = d.from;
          to = d.to;
          hit = λ h. told x.satellite x.next false d.held e;
        }

    down_out : (x : Scan) → Down x → Down (stopped false x)
    unfolding stopped
    down_out x d =
        record { held = d.held; high = d.high; order = d.order; near = d.near; from = d.from; to = d.to; hit = λ h. impossible (false≢true h) }

    down_step : (x : Scan) → Down x → Down (sampled (seen_at site) least false step x)
    unfolding sampled judged hits
    down_step x d =
        kept_by Down (cond (not (lt least (seen_at site x.satellite x.next).sine)) (stopped true x) (passed step x (seen_at site x.satellite x.next))) (stopped false x)
        (in_calendar x.next) (down_judged x (lt least (seen_at site x.satellite x.next).sine) refl d) (down_out x d)

    down_begin : (s : Satellite) → Held k s → p u ≡ true → Down (begin s u)
    unfolding begin
    down_begin s h e =
        record { held = h; high = e; order = omega arith; near = omega arith; from = omega arith; to = omega arith; hit = λ z. impossible (false≢true z) }

    pub downward : (n : ℕ) (s : Satellite) → Held k s → p u ≡ true → Down (scanned site least false step n s u)
    unfolding scanned
    downward n s h e = kept Down stops (sampled (seen_at site) least false step) down_step n (begin s u) (down_begin s h e)

  -- ── the highest sample, of those from u on ──

  module _ (u : ℕ) (high : lt nadir (f u) ≡ true) where
    pub record Top (x : Scan) : Type 0 where
      pub held : Held k x.satellite
      pub j : ℕ
      pub next : x.next ≡ u + j * step
      pub best : (i : ℕ) → i < j → lt x.best.sine (f (u + i * step)) ≡ false
      pub known : (x.best.sine ≡ f x.best.at) ⊎ ((j ≡ 0) × (x.best.sine ≡ nadir))

    module _ (b : Best) (w j : ℕ) (y : Float) (ew : w ≡ u + j * step) (ey : y ≡ f w) (best : (i : ℕ) → i < j → lt b.sine (f (u + i * step)) ≡ false) where
      here : y ≡ f (u + j * step)
      here = ey ∙ ap f ew

      new_best : lt b.sine y ≡ true → (i : ℕ) → (i ≡ j) ⊎ (i < j) → lt y (f (u + i * step)) ≡ false
      new_best h i (inl e) = ap (λ (m : ℕ). lt y (f (u + m * step))) e ∙ sym (ap (lt y) here) ∙ lt_self y
      new_best h i (inr l) = still_not b.sine y (f (u + i * step)) h (best i l)

      old_best : lt b.sine y ≡ false → (i : ℕ) → (i ≡ j) ⊎ (i < j) → lt b.sine (f (u + i * step)) ≡ false
      old_best h i (inl e) = ap (λ (m : ℕ). lt b.sine (f (u + m * step))) e ∙ sym (ap (lt b.sine) here) ∙ h
      old_best h i (inr l) = best i l

      -- the first sample is higher than straight down
      old_known : lt b.sine y ≡ false → (b.sine ≡ f b.at) ⊎ ((j ≡ 0) × (b.sine ≡ nadir)) → (b.sine ≡ f b.at) ⊎ ((suc j ≡ 0) × (b.sine ≡ nadir))
      old_known h (inl e) = inl e
      old_known h (inr z) =
          let zero-step : u + 0 * step ≡ u = omega arith in
          let e : u + j * step ≡ u = ap (λ (m : ℕ). u + m * step) z.0 ∙ zero-step in
          impossible (false≢true (sym h ∙ ap (λ (q : Float). lt q y) z.1 ∙ ap (lt nadir) (here ∙ ap f e) ∙ high))

    top_by : (x : Scan) (y : Seen) (q : Bool) → lt x.best.sine y.sine ≡ q → y.sine ≡ f x.next → Held k y.satellite → Top x
        → Top (record { stop = false; found = false; last = x.next; next = x.next + step; best = cond q (record { at = x.next; sine = y.sine }) x.best; satellite = y.satellite })
    top_by x y true e ey g r =
        record {
          held = g;
          j = suc r.j;
          next = omega (arith, r.next);
          best = λ i l. new_best x.best x.next r.j y.sine r.next ey r.best e i (eq-or-lt_of_le (le_of_suc-le-suc l));
          known = inl ey;
        }
    top_by x y false e ey g r =
        record {
          held = g;
          j = suc r.j;
          next = omega (arith, r.next);
          best = λ i l. old_best x.best x.next r.j y.sine r.next ey r.best e i (eq-or-lt_of_le (le_of_suc-le-suc l));
          known = old_known x.best x.next r.j y.sine r.next ey r.best e r.known;
        }

    top_passed : (x : Scan) → Top x → Top (passed step x (seen_at site x.satellite x.next))
    unfolding passed higher
    top_passed x r =
        let y = seen_at site x.satellite x.next in
        top_by x y (lt x.best.sine y.sine) refl (same_sine site k x.satellite x.next r.held) (still_held site k x.satellite x.next r.held) r

    top_stopped : (b : Bool) (x : Scan) → Top x → Top (stopped b x)
    unfolding stopped
    top_stopped b x r = record { held = r.held; j = r.j; next = r.next; best = r.best; known = r.known }

    top_step : (x : Scan) → Top x → Top (sampled (seen_at site) least false step x)
    unfolding sampled judged hits
    top_step x r =
        let y = seen_at site x.satellite x.next in
        kept_by Top (cond (not (lt least y.sine)) (stopped true x) (passed step x y)) (stopped false x) (in_calendar x.next)
        (kept_by Top (stopped true x) (passed step x y) (not (lt least y.sine)) (top_stopped true x r) (top_passed x r)) (top_stopped false x r)

    top_begin : (s : Satellite) → Held k s → Top (begin s u)
    unfolding begin
    top_begin s h = record { held = h; j = 0; next = omega arith; best = λ i l. absurd (omega (arith, l)); known = inr (refl, refl) }

    pub topped : (n : ℕ) (s : Satellite) → Held k s → Top (scanned site least false step n s u)
    unfolding scanned
    topped n s h = kept Top stops (sampled (seen_at site) least false step) top_step n (begin s u) (top_begin s h)

  -- the highest point is as high as the highest sample
  climb_by : (g : ℕ → Float) → ((t : ℕ) → g t ≡ f t) → (b : Best) (m : ℕ) (w : Float) → b.sine ≡ f b.at → lt b.sine w ≡ false
      → (q : Bool) → lt b.sine (g m) ≡ q → lt (f (cond q m b.at)) w ≡ false
  climb_by g same b m w e l true h = still_not b.sine (f m) w (sym (ap (lt b.sine) (same m)) ∙ h) l
  climb_by g same b m w e l false h = sym (ap (λ (s : Float). lt s w) e) ∙ l

  summit_tops : (g : ℕ → Float) → ((t : ℕ) → g t ≡ f t) → (b : Best) (rise set : ℕ) (w : Float) → b.sine ≡ f b.at → lt b.sine w ≡ false
      → lt (f (summit g b rise set step)) w ≡ false
  unfolding summit
  summit_tops g same b rise set w e l =
      let m = climbed g (max rise (b.at - step)) (min set (b.at + step)) in
      climb_by g same b m w e l (lt b.sine (g m)) refl

  -- ── the pass ──

  module _ (up down : Scan) (left : ℕ) (hs : step ≤ 86400000000) (u : Up up) (f : up.found ≡ true) (d : Down up.next down) where
    abbrev q : ℕ → Bool
    q = above_at site least up.satellite

    same : (t : ℕ) → q t ≡ p t
    same t = ap (lt least) (same_sine site k up.satellite t u.held)

    abbrev rise : ℕ
    rise = edge q up.last up.next

    abbrev set : ℕ
    set = edge q (after down) down.last

    wide : 86400000000 ≤ 2 ^ 37
    wide = omega arith

    rise_found : p up.last ≡ false → (q rise ≡ true) × ((q (rise - 1) ≡ false) × (rise ≤ up.next))
    rise_found h =
        let l = less_than up.last up.next u.order (λ z. differ p up.next up.last (u.hit f) h (sym z)) in
        edge_rises q up.last up.next (same up.last ∙ h) (same up.next ∙ u.hit f) l (omega (arith, u.near, hs, wide))

    rise_upto : (up.last ≡ up.next) ⊎ (p up.last ≡ false) → rise ≤ up.next
    rise_upto (inl e) = let w : rise ≡ up.next = ap (λ z. edge q z up.next) e ∙ edge_same q up.next in omega (arith, w)
    rise_upto (inr h) = (rise_found h).1.1

    rises_by : (up.last ≡ up.next) ⊎ (p up.last ≡ false) → eqb up.last up.next ≡ false → (p rise ≡ true) × (p (rise - 1) ≡ false)
    rises_by (inl e) h = impossible (eqb-false up.last up.next h e)
    rises_by (inr g) h = let r = rise_found g in (sym (same rise) ∙ r.0, sym (same (rise - 1)) ∙ r.1.0)

    set_found : down.found ≡ true → (q (edge q down.next down.last) ≡ true) × ((q (edge q down.next down.last + 1) ≡ false) × (down.last ≤ edge q down.next down.last))
    set_found h =
        let l = less_than down.last down.next d.order (λ z. differ p down.last down.next d.high (d.hit h) z) in
        edge_sets q down.last down.next (same down.last ∙ d.high) (same down.next ∙ d.hit h) l (omega (arith, d.near, hs, wide))

    set_from : (b : Bool) → down.found ≡ b → down.last ≤ edge q (cond b down.next down.last) down.last
    set_from true h = (set_found h).1.1
    set_from false h = let w = edge_same q down.last in omega (arith, w)

    sets_by : (b : Bool) → down.found ≡ b → not b ≡ false
        → (p (edge q (cond b down.next down.last) down.last) ≡ true) × (p (edge q (cond b down.next down.last) down.last + 1) ≡ false)
    sets_by true h n = let r = set_found h in (sym (same _) ∙ r.0, sym (same _) ∙ r.1.0)
    sets_by false h n = impossible (false≢true (sym n))

    pub refined : Refined p (pass_of site least step up down left)
    unfolding pass_of
    refined =
        record {
          rises = rises_by u.below;
          sets = sets_by down.found refl;
          highest =
              summit_within (sine_at site up.satellite) down.best rise set step
              (omega (arith, rise_upto u.below, d.from))
              (omega (arith, set_from down.found refl, d.to));
        }

  -- ── the answer ──

  module _ (s : Satellite) (h : Held k s) (hs : step ≤ 86400000000) (n t : ℕ) where
    abbrev up : Scan
    up = scanned site least true step n s t

    abbrev j : ℕ
    j = scans_left site least true step n s t

    abbrev down : Scan
    down = scanned site least false step j up.satellite up.next

    reached : Reached t true n 0 up j
    reached = begins t true n s h

    after_it : Reached up.next false j 0 down (scans_left site least false step j up.satellite up.next)
    after_it = begins up.next false j up.satellite (upward n s t h).held

    earlier : (i : ℕ) → t + i * step < up.next → p (t + i * step) ≡ false
    earlier i l = by_place (split reached.m i)
      where
        by_place : (reached.m ≤ i) ⊎ (i < reached.m) → p (t + i * step) ≡ false
        by_place (inl g) = let w : reached.m * step ≤ i * step = mul-le-mul_right step g in absurd (omega (arith, w, l, reached.next))
        by_place (inr g) = reached.missed i (omega arith) g

    module _ (rise set : ℕ) (g : up.found ≡ true) (low : lt nadir least ≡ true) (i : ℕ) (a : p (t + i * step) ≡ true) (l : t + i * step < down.next) where
      abbrev seen : lt nadir (f up.next) ≡ true
      seen = lt_trans nadir least (f up.next) low ((upward n s t h).hit g)

      abbrev top : Top up.next seen down
      top = topped up.next seen j up.satellite (upward n s t h).held

      abbrev Highest : Type 0
      Highest = lt (f (summit (sine_at site up.satellite) down.best rise set step)) (f (t + i * step)) ≡ false

      at_top : (m : ℕ) → t + i * step ≡ up.next + m * step → (top.j ≤ m) ⊎ (m < top.j) → (down.best.sine ≡ f down.best.at) ⊎ ((top.j ≡ 0) × (down.best.sine ≡ nadir)) → Highest
      at_top m e (inl z) q = let w : top.j * step ≤ m * step = mul-le-mul_right step z in absurd (omega (arith, w, e, l, top.next))
      at_top m e (inr z) (inr q) = absurd (omega (arith, z, q.0))
      at_top m e (inr z) (inl q) =
          summit_tops (sine_at site up.satellite) (λ v. same_sine site k up.satellite v (upward n s t h).held) down.best rise set (f (t + i * step)) q
          (ap (λ (v : ℕ). lt down.best.sine (f v)) e ∙ top.best m z)

      by_place : (reached.m ≤ i) ⊎ (i < reached.m) → Highest
      by_place (inl z) =
          let d : i ≡ reached.m + (i - reached.m) = omega (arith, z) in
          let e' : t + i * step ≡ t + (reached.m + (i - reached.m)) * step = ap (λ (v : ℕ). t + v * step) d in
          let e : t + i * step ≡ up.next + (i - reached.m) * step = omega (arith, e', reached.next) in
          at_top (i - reached.m) e (split top.j (i - reached.m)) top.known
      by_place (inr z) = impossible (false≢true (sym (reached.missed i (omega arith) z) ∙ a))

      highest_of : Highest
      highest_of = by_place (split reached.m i)

    first : up.found ≡ true → First f least t step n (pass_of site least step up down (scans_left site least false step j up.satellite up.next))
    unfolding pass_of
    first g =
        let u = upward n s t h in
        let d = downward up.next j up.satellite u.held (u.hit g) in
        record {
          before = λ i l. earlier i (omega (arith, l, rise_upto up down (scans_left site least false step j up.satellite up.next) hs u g d u.below));
          onward = going_on down.found refl;
          tops = highest_of _ _ g;
        }
      where
        going_on : (b : Bool) → down.found ≡ b → not b ≡ false
            → Onward t step n down.next (cond b (scans_left site least false step j up.satellite up.next) 0)
        going_on true e z =
            record {
              m = reached.m + after_it.m;
              at = omega (arith, reached.next, after_it.next);
              rest = omega (arith, reached.counted g, after_it.counted e);
            }
        going_on false e z = impossible (false≢true (sym z))

    by_found : (b : Bool) → up.found ≡ b → Right f least t step n (cond b (Ok (Some (pass_of site least step up down (scans_left site least false step j up.satellite up.next)))) (Ok None))
    by_found true g =
        let u = upward n s t h in
        (refined up down (scans_left site least false step j up.satellite up.next) hs u g (downward up.next j up.satellite u.held (u.hit g)), first g)
    by_found false g = all_below t n s h g

    pub right : Right f least t step n (searched site least step n s t)
    unfolding searched
    right = by_found up.found refl

opened : (s : Satellite) (g : Geodetic) (least : Float) (t step n : ℕ) (b : Bool) → eqb (pass_refusal g least step) 0 ≡ b
    → next_pass s g least t step n ≡ cond b (searched (site_of g) (sin_of (radians_of least)) (step * 1000000) n s t) (Err (pass_refusal g least step))
unfolding next_pass
opened s g least t step n b e = ap (λ z. cond z (searched (site_of g) (sin_of (radians_of least)) (step * 1000000) n s t) (Err (pass_refusal g least step))) e

by_refusal : (s : Satellite) → Held s.model s → (g : Geodetic) (least : Float) (t step n : ℕ) (b : Bool) → eqb (pass_refusal g least step) 0 ≡ b
    → Right (sine_at (site_of g) (satellite_at s.model none)) (sin_of (radians_of least)) t (step * 1000000) n (cond b (searched (site_of g) (sin_of (radians_of least)) (step * 1000000) n s t) (Err (pass_refusal g least step)))
by_refusal s h g least t step n true e =
    let w : step ≤ 86400 = short_step g least step (eqb-true (pass_refusal g least step) 0 e) in
    right (site_of g) s.model (sin_of (radians_of least)) (step * 1000000) s h (omega (arith, w)) n t
by_refusal s h g least t step n false e = tt

answered_by : (s : Satellite) → Held s.model s → (g : Geodetic) (least : Float) (t step n : ℕ) (b : Bool) → eqb (pass_refusal g least step) 0 ≡ b
    → Right (sine_at (site_of g) (satellite_at s.model none)) (sin_of (radians_of least)) t (step * 1000000) n (next_pass s g least t step n)
answered_by s h g least t step n b e =
    subst (Right (sine_at (site_of g) (satellite_at s.model none)) (sin_of (radians_of least)) t (step * 1000000) n) (sym (opened s g least t step n b e)) (by_refusal s h g least t step n b e)

pub opened_passes : OpenedPasses
opened_passes r s h g least t step n =
    let at : s ≡ satellite_at s.model none = ap (λ (z : Place). record { model = s.model; place = z }) (opened_place r s h ∙ sym (position_zero (integrator_of s.model) Forward)) in
    subst (λ (z : Satellite). Right (sine_at (site_of g) z) (sin_of (radians_of least)) t (step * 1000000) n (next_pass s g least t step n)) (sym at) (answered_by s (record { last = none; at = at }) g least t step n (eqb (pass_refusal g least step) 0) refl)
