-- What a call comes to, and what it leaves in the room, from what the calls inside it do.
use Prim.Native.Nat.{ℕ, ◌+◌, ◌*◌, ◌≤◌, ◌<◌}
use mathlib.Core.Path.{◌≡◌, refl, sym, ap, ◌∙◌}
use mathlib.Core.Bool.{Bool, true, false, cond, not, ◌||◌}
use mathlib.Core.List.{List, [], ◌∷◌}
use native.Mathlib.Omega.{arith}
use lib.Dec.{eqb, ltb}
use lib.ListN.{length, set}
use lib.Ieee.{Float}
use borrow.Author.Tests.{lt-ltb, le-ltb, ltb-false, eq-eqb, ne_eqb}
use Rattle.geodetic.specs.declared.Geodetic.{Geodetic}
use Rattle.geodetic.specs.declared.Site.{Site}
use Rattle.geodetic.specs.Geodetic.{on_earth, site_of}
use Rattle.opening.specs.declared.opening.Satellite.{Satellite}
use Rattle.horizon.specs.declared.Look.{Look}
use Rattle.sightings.specs.Sightings.{sighted_at}
use Rattle.passes.specs.declared.Pass.{Pass}
use Rattle.std.specs.Prelude.{Err, Ok, Option, Result, Some}
use Rattle.passes.specs.Passes.{pass_refusal, next_pass}
use Rattle.pass_edges.proofs.Steps.{yes, no}
use Rattle.requests.specs.Lists.{over}
use Rattle.storage.specs.Storage.{too_short, satellite_of}
use Rattle.answers.specs.Answer.{answer}
use Rattle.lent_passes.specs.Passes.{geodetic_of, least_of, short, or_room, passing_held, bit}
use Rattle.lent_passes.specs.Looks.{sighting_held}

absurd : {B : Type 0} → ⊥ → B
absurd = elim [ ]

-- ── the front of a room ──

pub four : (l : List ℕ) (a b c d : ℕ) → 4 ≤ length l → set (set (set (set l 0 a) 1 b) 2 c) 3 d ≡ over (a ∷ b ∷ c ∷ d ∷ []) l
four [] a b c d h = absurd (omega arith)
four (x ∷ []) a b c d h = absurd (omega arith)
four (x ∷ y ∷ []) a b c d h = absurd (omega arith)
four (x ∷ y ∷ z ∷ []) a b c d h = absurd (omega arith)
four (x ∷ y ∷ z ∷ w ∷ l) a b c d h = refl

pub three : (l : List Float) (a b c : Float) → 3 ≤ length l → set (set (set l 0 a) 1 b) 2 c ≡ over (a ∷ b ∷ c ∷ []) l
three [] a b c h = absurd (omega arith)
three (x ∷ []) a b c h = absurd (omega arith)
three (x ∷ y ∷ []) a b c h = absurd (omega arith)
three (x ∷ y ∷ z ∷ l) a b c h = refl

-- the marks of a pass
pub bits : (begun still : Bool) (x y left r : ℕ) → x ≡ bit begun → y ≡ bit still → r ≡ answer 0 0 (1 + 2 * x + 4 * y) left
    → r ≡ answer 0 0 (1 + 2 * bit begun + 4 * bit still) left
bits begun still x y left r hx hy e =
    e ∙ ap (λ (n : ℕ). answer 0 0 (1 + 2 * n + 4 * y) left) hx ∙ ap (λ (n : ℕ). answer 0 0 (1 + 2 * bit begun + 4 * n) left) hy

-- ── memory too short, or not ──

module _ (n : ℕ) (ns : List Float) (ms : List ℕ) (room : ℕ) where
  pub short_room : room < n → short n ns ms room ≡ true
  unfolding short
  short_room h = rw (lt-ltb room n h)

  pub short_memory : n ≤ room → too_short (length ns) (length ms) ≡ true → short n ns ms room ≡ true
  unfolding short
  short_memory h k = rw (le-ltb room n h, k)

  pub long_enough : n ≤ room → too_short (length ns) (length ms) ≡ false → short n ns ms room ≡ false
  unfolding short
  long_enough h k = rw (le-ltb room n h, k)

  or_first : (a b : Bool) → (a || b) ≡ false → a ≡ false
  or_first true b h = h
  or_first false b h = refl

  pub room_left : short n ns ms room ≡ false → n ≤ room
  unfolding short
  room_left h = ltb-false room n (or_first (ltb room n) (too_short (length ns) (length ms)) h)

-- ── a pass ──

pub or_own : (k r : ℕ) → k ≡ r → (k ≡ 0 → ⊥) → ◌≡◌ {A = Result (Option Pass) ℕ} (Err k) (Err (or_room r))
or_own k r e h = ap Err (no (eqb k 0) 17 k (ne_eqb k 0 h) ∙ ap or_room e)

pub or_room_lem : (k r : ℕ) → k ≡ r → k ≡ 0 → ◌≡◌ {A = Result (Option Pass) ℕ} (Err 17) (Err (or_room r))
or_room_lem k r e h = ap Err (yes (eqb k 0) 17 k (eq-eqb k 0 h) ∙ ap or_room e)

module _ (ns : List Float) (ms : List ℕ) (v : List Float) (start step n room : ℕ) (g : Geodetic) (x : Float) (hg : g ≡ geodetic_of v) (hx : x ≡ least_of v) (p : Result (Option Pass) ℕ) where
  abbrev refusing : Geodetic → Float → Result (Option Pass) ℕ
  refusing g x = Err (or_room (pass_refusal g x step))

  pub pass_short : short 4 ns ms room ≡ true → p ≡ refusing g x → p ≡ passing_held ns ms v start step n room
  unfolding passing_held
  pass_short h e =
      e ∙ ap (λ (z : Geodetic). refusing z x) hg ∙ ap (refusing (geodetic_of v)) hx
      ∙ yes (short 4 ns ms room) (refusing (geodetic_of v) (least_of v)) (next_pass (satellite_of ns ms) (geodetic_of v) (least_of v) start step n) h

  pub pass_held : (s : Satellite) → short 4 ns ms room ≡ false → s ≡ satellite_of ns ms → p ≡ next_pass s g x start step n → p ≡ passing_held ns ms v start step n room
  unfolding passing_held
  pass_held s h hs e =
      e ∙ ap (λ (z : Satellite). next_pass z g x start step n) hs
      ∙ ap (λ (z : Geodetic). next_pass (satellite_of ns ms) z x start step n) hg
      ∙ ap (λ (z : Float). next_pass (satellite_of ns ms) (geodetic_of v) z start step n) hx
      ∙ no (short 4 ns ms room) (refusing (geodetic_of v) (least_of v)) (next_pass (satellite_of ns ms) (geodetic_of v) (least_of v) start step n) h

-- a pass is found only where there is room for it
found_room : (b : Bool) (r : ℕ) (y : Result (Option Pass) ℕ) (p : Pass) → cond b (Err r) y ≡ Ok (Some p) → b ≡ false
found_room true r y p e = let z : ◌≡◌ {A = ℕ} 0 1 = cc in absurd (omega arith)
found_room false r y p e = refl

pub found_fits : (ns : List Float) (ms : List ℕ) (v : List Float) (start step n room : ℕ) (p : Pass) → passing_held ns ms v start step n room ≡ Ok (Some p) → 4 ≤ room
unfolding passing_held
found_fits ns ms v start step n room p e = room_left 4 ns ms room (found_room (short 4 ns ms room) _ _ p e)

-- ── a look ──

pub not_true : (b : Bool) → not b ≡ true → b ≡ false
not_true true h = sym h
not_true false h = refl

pub not_false : (b : Bool) → not b ≡ false → b ≡ true
not_false true h = refl
not_false false h = sym h

module _ (ns : List Float) (ms : List ℕ) (v : List Float) (t room : ℕ) (g : Geodetic) (hg : g ≡ geodetic_of v) (b : Bool) (hb : b ≡ on_earth g) where
  abbrev seen : Result Look ℕ
  seen = cond (short 3 ns ms room) (Err 17) (sighted_at (site_of (geodetic_of v)) (satellite_of ns ms) t)

  on : on_earth (geodetic_of v) ≡ b
  on = sym (hb ∙ ap on_earth hg)

  pub no_station : b ≡ false → Err 25 ≡ sighting_held ns ms v t room
  unfolding sighting_held
  no_station h = no (on_earth (geodetic_of v)) seen (Err 25) (on ∙ h)

  station : b ≡ true → seen ≡ sighting_held ns ms v t room
  unfolding sighting_held
  station h = yes (on_earth (geodetic_of v)) seen (Err 25) (on ∙ h)

  pub look_short : b ≡ true → short 3 ns ms room ≡ true → Err 17 ≡ sighting_held ns ms v t room
  look_short h k = yes (short 3 ns ms room) (Err 17) (sighted_at (site_of (geodetic_of v)) (satellite_of ns ms) t) k ∙ station h

  pub look_held : b ≡ true → short 3 ns ms room ≡ false → (s : Satellite) → s ≡ satellite_of ns ms → (site : Site) → site ≡ site_of g
      → (x : Result Look ℕ) → x ≡ sighted_at site s t → x ≡ sighting_held ns ms v t room
  look_held h k s hs site hz x e =
      e ∙ ap (λ (z : Site). sighted_at z s t) (hz ∙ ap site_of hg)
      ∙ ap (λ (z : Satellite). sighted_at (site_of (geodetic_of v)) z t) hs
      ∙ no (short 3 ns ms room) (Err 17) (sighted_at (site_of (geodetic_of v)) (satellite_of ns ms) t) k
      ∙ station h

seen_room : (a b : Bool) (r q : ℕ) (y : Result Look ℕ) (l : Look) → cond a (cond b (Err r) y) (Err q) ≡ Ok l → b ≡ false
seen_room true true r q y l e = let z : ◌≡◌ {A = ℕ} 0 1 = cc in absurd (omega arith)
seen_room true false r q y l e = refl
seen_room false b r q y l e = let z : ◌≡◌ {A = ℕ} 0 1 = cc in absurd (omega arith)

pub seen_fits : (ns : List Float) (ms : List ℕ) (v : List Float) (t room : ℕ) (l : Look) → sighting_held ns ms v t room ≡ Ok l → 3 ≤ room
unfolding sighting_held
seen_fits ns ms v t room l e = room_left 3 ns ms room (seen_room (on_earth (geodetic_of v)) (short 3 ns ms room) _ _ _ l e)
