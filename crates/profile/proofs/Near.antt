-- The full program's answers for a near-Earth satellite: no strides, the position settled, and a row that neither position nor epoch changes.
use mathlib.Core.Path.{◌≡◌, refl, sym, ap, ◌∙◌}
use mathlib.Core.Bool.{Bool, true, false, cond, false≢true}
use Prim.Native.Nat.{ℕ, zero, suc}
use native.Mathlib.Omega.{arith}
use lib.Dec.{leb}
use lib.IntN.{ℤ, pos, negsuc, nat_abs}
use lib.Ieee.{Float}
use borrow.Author.Tests.{leb-true, le-leb, ne_eqb, lt-ltb}
use Rattle.instant.specs.declared.Instant.{Instant}
use Rattle.instant.specs.Quantity.{minutes_of}
use Rattle.instant.proofs.Signed.{back}
use Rattle.satellite.specs.declared.Integrator.{Integrator}
use Rattle.satellite.specs.declared.NearEarth.{NearEarth}
use Rattle.satellite.specs.declared.DeepSpace.{DeepSpace}
use Rattle.satellite.specs.declared.Method.{Method}
use Rattle.satellite.specs.declared.Method.TheVariants as methods
use Rattle.satellite.specs.declared.Model.{Model}
use Rattle.resonance.specs.declared.place.Side.{Side}
use Rattle.resonance.specs.declared.place.Place.{Place}
use Rattle.resonance.specs.Place.{epoch_of, resumes, begun, iter, kept, advanced, rise, advance_of}
use Rattle.resonance.specs.Time.{side_of, in_range, whole_strides}
use Rattle.state.specs.Kept.{sgp4_from}
use Rattle.sgp4.specs.Sgp4.{no_integrator, integrator_by, integrator_of}
use Rattle.sgp4.specs.Row.{refused_row, row_of}
use Rattle.sgp4.specs.Kept.{state_by_from, state_from, row_from}
use Rattle.requests.specs.declared.Asked.{Asked}
use Rattle.requests.specs.Request as F
use Rattle.requests.specs.Request.{reached, choose}
use Rattle.requests.specs.Lists.{holding}
use Rattle.profile.specs.Request.{beyond_by, taken, refused, answered, settled}
use Rattle.profile.specs.Rows.{near_row}
use Rattle.profile.specs.Claims.{NearRow}

abbrev pub near_model : NearEarth → Instant → Model
near_model n e = record { near = n; method = methods.NearEarth; epoch = e }

-- ── the position ──

settle_by : (d e : Side) (n : ℕ) (x y : Float)
    → advanced no_integrator (record { side = e; strides = record { 0 = n }; xli = x; xni = y }) d 0 ≡ settled (record { side = e; strides = record { 0 = n }; xli = x; xni = y })
unfolding advanced begun resumes kept iter epoch_of settled no_integrator
settle_by d e zero x y = refl
settle_by d e (suc n) x y = rw (ne_eqb (suc n) 0 (λ z. omega arith), lt-ltb 0 (suc n) (omega arith))

pub settles : (p : Place) (d : Side) → advanced no_integrator p d 0 ≡ settled p
settles p d = settle_by d p.side p.strides.0 p.xli p.xni

twice_by : (e : Side) (n : ℕ) (x y : Float)
    → settled (settled (record { side = e; strides = record { 0 = n }; xli = x; xni = y })) ≡ settled (record { side = e; strides = record { 0 = n }; xli = x; xni = y })
unfolding settled epoch_of no_integrator
twice_by e zero x y = refl
twice_by e (suc n) x y = rw (ne_eqb (suc n) 0 (λ z. omega arith))

pub settled_twice : (p : Place) → settled (settled p) ≡ settled p
settled_twice p = twice_by p.side p.strides.0 p.xli p.xni

no_rise : (i : Integrator) (p : Place) (d : Side) → rise i p d 0 ≡ 0
unfolding rise
no_rise i p d = omega arith

-- ── a time that is taken ──

pub taken_range : (t : ℤ) → taken t ≡ true → in_range t ≡ true
unfolding taken in_range
taken_range (pos n) h = let g = leb-true n 2592000000000 h in le-leb n 315532800000000 (omega (arith, g))
taken_range (negsuc n) h = absurd (false≢true h)

pub not_taken : (t : ℤ) → back t ≡ true → taken t ≡ false
unfolding taken
not_taken (pos n) h = absurd (false≢true h)
not_taken (negsuc n) h = refl

pub taken_by : (t : ℤ) → back t ≡ false → leb (nat_abs t) 2592000000000 ≡ taken t
unfolding taken
taken_by (pos n) h = refl
taken_by (negsuc n) h = absurd (false≢true (sym h))

abbrev pub near_asked : NearEarth → Place → ℤ → Asked
near_asked n p t = record { row = row_of (sgp4_from n (record { 0 = minutes_of t })); strides = record { 0 = 0 }; place = settled p }

module _ (n : NearEarth) (e : Instant) (p : Place) (t : ℤ) where
  near_inside : F.inside (near_model n e) p t ≡ near_asked n p t
  unfolding reached advance_of integrator_of integrator_by no_integrator whole_strides row_from state_from state_by_from
  near_inside =
      let r = row_of (sgp4_from n (record { 0 = minutes_of t })) in
      ap (λ (m : ℕ). record { row = r; strides = record { 0 = m }; place = advanced no_integrator p (side_of t) 0 }) (no_rise no_integrator p (side_of t))
      ∙ ap (λ (q : Place). record { row = r; strides = record { 0 = 0 }; place = q }) (settles p (side_of t))

  pub near_asked_lem : taken t ≡ true → F.asked (near_model n e) p t ≡ near_asked n p t
  unfolding F.asked
  near_asked_lem h = ap (λ b. choose b (F.inside (near_model n e) p t) (F.outside p)) (taken_range t h) ∙ near_inside

-- ── a satellite that is not beyond the profile is near Earth ──

pub near_method : (m : Method) → beyond_by m ≡ false → m ≡ methods.NearEarth
unfolding beyond_by
near_method methods.NearEarth h = refl
near_method (methods.DeepSpace d) h = absurd (false≢true (sym h))

pub near_taken : beyond_by methods.NearEarth ≡ false
unfolding beyond_by integrator_by no_integrator
near_taken = refl

pub deep_beyond : (d : DeepSpace) → beyond_by (methods.DeepSpace d) ≡ true
unfolding beyond_by
deep_beyond d = refl

pub near_model_lem : (k : Model) → beyond_by k.method ≡ false → near_model k.near k.epoch ≡ k
near_model_lem k h = ap (λ m. record { near = k.near; method = m; epoch = k.epoch }) (sym (near_method k.method h))

-- ── the row, wherever the position and the epoch are ──

module _ (n : NearEarth) (e : Instant) (p : Place) (t : ℤ) where
  near_by : (b : Bool) → taken t ≡ b
      → cond b (row_of (sgp4_from n (record { 0 = minutes_of t }))) (refused_row 33) ≡ (cond b (F.answered (holding (near_model n e) p) t) (refused 33 (holding (near_model n e) p))).row
  near_by true h = sym (ap (λ (x : Asked). x.row) (near_asked_lem n e p t h))
  near_by false h = refl

  pub near_row_lem : near_row n t ≡ (answered (holding (near_model n e) p) t).row
  unfolding near_row answered
  near_row_lem = rw near_taken (near_by (taken t) refl)

  place_by : (b : Bool) → taken t ≡ b → (cond b (F.answered (holding (near_model n e) p) t) (refused 33 (holding (near_model n e) p))).satellite.place ≡ cond b (settled p) p
  place_by true h = ap (λ (x : Asked). x.place) (near_asked_lem n e p t h)
  place_by false h = refl

  -- what is left of the position
  pub near_place : (answered (holding (near_model n e) p) t).satellite.place ≡ cond (taken t) (settled p) p
  unfolding answered
  near_place = rw near_taken (place_by (taken t) refl)

pub near_row_of : NearRow
near_row_of = near_row_lem
