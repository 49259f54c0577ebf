-- What is stored is what is loaded, whatever lay in the memory before; and storing a saved position changes nothing but that.
use mathlib.Core.Path.{◌≡◌, refl, ap, ◌∙◌}
use mathlib.Core.Bool.{Bool, true, false, not}
use mathlib.Core.List.{List, [], ◌∷◌, ◌++◌}
use Prim.Native.Nat.{ℕ, ◌+◌, ◌*◌, ◌/◌, ◌%◌, ◌≤◌}
use native.Mathlib.Omega.{arith}
use lib.Dec.{eqb}
use lib.ListN.{length, drop, length-append, length-drop}
use lib.Ieee.{Float}
use Rattle.instant.specs.declared.Instant.{Instant}
use Rattle.satellite.specs.declared.DeepSpace.{DeepSpace}
use Rattle.satellite.specs.declared.NearEarth.{NearEarth}
use Rattle.satellite.specs.declared.Resonance.{Resonance}
use Rattle.satellite.specs.declared.Resonance.TheVariants as resonance
use Rattle.satellite.specs.declared.Method.{Method}
use Rattle.satellite.specs.declared.Method.TheVariants as method
use Rattle.satellite.specs.declared.Model.{Model}
use Rattle.resonance.specs.declared.place.Place.{Place}
use Rattle.resonance.specs.declared.place.Side.{Side}
use Rattle.resonance.specs.declared.place.Side.TheVariants as side
use Rattle.opening.specs.declared.opening.Satellite.{Satellite}
use Rattle.storage.specs.Storage.{place_numbers, near_numbers, lunar_solar_numbers, integrator_numbers, deep_numbers, method_numbers, model_numbers, numbers_of}
use Rattle.storage.specs.Storage.{side_mark, isimp_mark, resonance_mark, method_mark, model_marks, place_marks, marks_of}
use Rattle.storage.specs.Storage.{near_earth_at, lunar_solar_at, resonance_at, integrator_at, deep_space_at, method_at, side_at, place_at, epoch_at, model_at, satellite_of}
use Rattle.storage.specs.Storage.{loading_of, stored_numbers, stored_marks, placed_numbers, placed_marks}
use Rattle.std.specs.Prelude.{Some}
use Rattle.storing.proofs.Rooms.{enough, length_numbers, length_marks}

side_kept : (x : Side) → side_at (side_mark x) ≡ x
unfolding side_at
side_kept side.Forward = refl
side_kept side.Back = refl

isimp_kept : (b : Bool) → not (eqb (isimp_mark b) 0) ≡ b
isimp_kept false = refl
isimp_kept true = refl

epoch_kept : (t : Instant) → epoch_at (t.0 % 4294967296) (t.0 / 4294967296) ≡ t
epoch_kept t = let e : t.0 % 4294967296 + 4294967296 * (t.0 / 4294967296) ≡ t.0 = omega arith in ap (λ (n : ℕ). record { 0 = n }) e

abbrev resonant : DeepSpace → Resonance → DeepSpace
resonant d r =
    let i = d.integrator in
    record {
      rates = d.rates;
      periodics = d.periodics;
      integrator = record { resonance = r; xlamo = i.xlamo; xfact = i.xfact; no = i.no; argpo = i.argpo; argpdot = i.argpdot; gsto = i.gsto };
    }

-- the kind of resonance, behind the place and the near-Earth part
deep_kept : (p : Place) (n : NearEarth) (d : DeepSpace) (r : Resonance) (ns : List Float)
    → method_at ((place_numbers p ++ (near_numbers n ++ deep_numbers (resonant d r))) ++ ns) (resonance_mark r) ≡ method.DeepSpace (resonant d r)
unfolding method_at deep_space_at lunar_solar_at integrator_at resonance_at place_numbers near_numbers deep_numbers lunar_solar_numbers integrator_numbers
deep_kept p n d resonance.None ns = refl
deep_kept p n d (resonance.OneDay x) ns = refl
deep_kept p n d (resonance.HalfDay x) ns = refl

method_kept : (p : Place) (n : NearEarth) (m : Method) (ns : List Float)
    → method_at ((place_numbers p ++ (near_numbers n ++ method_numbers m)) ++ ns) (method_mark m) ≡ m
unfolding method_numbers method_at
method_kept p n method.NearEarth ns = refl
method_kept p n (method.DeepSpace d) ns = deep_kept p n d d.integrator.resonance ns

-- ── a satellite ──

abbrev changed : Satellite → Bool → Method → Instant → Side → Satellite
changed s b m t x =
    let n = s.model.near in
    let p = s.place in
    record {
      model = record {
        near = record { elements = n.elements; isimp = b; drag = n.drag; higher = n.higher; rates = n.rates; terms = n.terms; kept = n.kept };
        method = m;
        epoch = t;
      };
      place = record { side = x; strides = p.strides; xli = p.xli; xni = p.xni };
    }

pub kept : (s : Satellite) (ns : List Float) (ms : List ℕ) → satellite_of (numbers_of s ++ drop 83 ns) (marks_of s ++ drop 6 ms) ≡ s
unfolding satellite_of model_at place_at near_earth_at numbers_of marks_of place_numbers place_marks model_numbers model_marks near_numbers
kept s ns ms =
    let b = s.model.near.isimp in
    let m = s.model.method in
    let x = s.place.side in
    let m' = method_at (numbers_of s ++ drop 83 ns) (method_mark m) in
    let x' = side_at (side_mark x) in
    let t = s.model.epoch in
    let t' = epoch_at (t.0 % 4294967296) (t.0 / 4294967296) in
    ap (λ c. changed s c m' t' x') (isimp_kept b)
    ∙ ap (λ k. changed s b k t' x') (method_kept s.place s.model.near m (drop 83 ns))
    ∙ ap (λ u. changed s b m u x') (epoch_kept t)
    ∙ ap (changed s b m t) (side_kept x)

-- ── a saved position ──

same_numbers : (x y : Float) (ns : List Float) (ms : List ℕ) → model_at (x ∷ y ∷ drop 2 ns) ms ≡ model_at ns ms
unfolding model_at near_earth_at method_at deep_space_at lunar_solar_at integrator_at resonance_at
same_numbers x y [] ms = refl
same_numbers x y (n ∷ []) ms = refl
same_numbers x y (n ∷ k ∷ ns) ms = refl

same_marks : (a b : ℕ) (ns : List Float) (ms : List ℕ) → model_at ns (a ∷ b ∷ drop 2 ms) ≡ model_at ns ms
unfolding model_at
same_marks a b ns [] = refl
same_marks a b ns (m ∷ []) = refl
same_marks a b ns (m ∷ k ∷ ms) = refl

pub placed : (p : Place) (ns : List Float) (ms : List ℕ) → satellite_of (place_numbers p ++ drop 2 ns) (place_marks p ++ drop 2 ms) ≡ record { model = (satellite_of ns ms).model; place = p }
unfolding satellite_of place_at place_numbers place_marks
placed p ns ms =
    let at : Model → Side → Satellite = λ k x. record { model = k; place = record { side = x; strides = p.strides; xli = p.xli; xni = p.xni } } in
    let same = same_numbers p.xli p.xni ns (place_marks p ++ drop 2 ms) ∙ same_marks (side_mark p.side) p.strides.0 ns ms in
    ap (λ k. at k (side_at (side_mark p.side))) same ∙ ap (at (model_at ns ms)) (side_kept p.side)

-- ── what the functions leave in memory that is long enough, loaded ──

module _ (ns : List Float) (ms : List ℕ) (h : 83 ≤ length ns) (k : 6 ≤ length ms) where
  pub stored_loads : (s : Satellite) → loading_of (stored_numbers s ns ms) (stored_marks s ns ms) ≡ Some s
  unfolding loading_of stored_numbers stored_marks
  stored_loads s =
      let e = enough (length (numbers_of s ++ drop 83 ns)) (length (marks_of s ++ drop 6 ms))
      (omega (arith, length-append (numbers_of s) (drop 83 ns), length_numbers s)) (omega (arith, length-append (marks_of s) (drop 6 ms), length_marks s)) in
      rw (enough (length ns) (length ms) h k, e) (ap Some (kept s ns ms))

  pub placed_loads : (p : Place) → loading_of (placed_numbers p ns ms) (placed_marks p ns ms) ≡ Some (record { model = (satellite_of ns ms).model; place = p })
  unfolding loading_of placed_numbers placed_marks place_numbers place_marks
  placed_loads p =
      let e = enough (length (place_numbers p ++ drop 2 ns)) (length (place_marks p ++ drop 2 ms))
      (omega (arith, length-drop 2 ns)) (omega (arith, length-drop 2 ms)) in
      rw (enough (length ns) (length ms) h k, e) (ap Some (placed p ns ms))
