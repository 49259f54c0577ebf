-- What lies in memory that a satellite near the Earth, or another, is loaded from.
use Prim.Native.Nat.{ℕ, ◌≤◌}
use mathlib.Core.Path.{◌≡◌, refl, sym, ap, ◌∙◌, subst}
use mathlib.Core.Bool.{Bool, true, false, cond, not}
use mathlib.Core.List.{List}
use lib.Dec.{eqb, ltb}
use lib.ListN.{length, get_or}
use lib.Ieee.{Float}
use borrow.Author.Tests.{ltb-false}
use Rattle.elementary.proofs.Branch.{neither}
use Rattle.instant.specs.declared.Instant.{Instant}
use Rattle.satellite.specs.declared.NearEarth.{NearEarth}
use Rattle.satellite.specs.declared.Method.TheVariants as methods
use Rattle.requests.specs.Lists.{holding}
use Rattle.std.specs.Prelude.{Err, Ok, Result}
use Rattle.storage.specs.declared.NearRefusal.{NearRefusal}
use Rattle.storage.specs.declared.NearRefusal.TheVariants as unloaded
use Rattle.storage.specs.Storage.{satellite_of, model_at, method_at, near_earth_at, deep_space_at, place_at, epoch_at}
use Rattle.storage.specs.Near.{near_short, near_kind, near_loading_of}
use Rattle.profile.specs.Request.{beyond}
use Rattle.profile.proofs.Near.{near_model, near_taken, deep_beyond}
use Rattle.saddlekerf_profile.specs.Requests.{deep_held}

abbrev pub epoch_in : List ℕ → Instant
epoch_in ms = epoch_at (get_or ms 4 0) (get_or ms 5 0)

-- ── which of the three answers it is ──

pub record Near (ns : List Float) (ms : List ℕ) (n : NearEarth) : Type 0 where
  pub long : near_short (length ns) (length ms) ≡ false
  pub kind : near_kind ms ≡ true
  pub made : n ≡ near_earth_at ns (not (eqb (get_or ms 2 0) 0))

abbrev near_here : Result NearEarth NearRefusal → List Float → List ℕ → Type 0
near_here (Ok n) ns ms = Near ns ms n
near_here (Err unloaded.DeepSpace) ns ms = (near_short (length ns) (length ms) ≡ false) × (near_kind ms ≡ false)
near_here (Err unloaded.RoomTooShort) ns ms = near_short (length ns) (length ms) ≡ true

here_by : (ns : List Float) (ms : List ℕ) (b k : Bool) → near_short (length ns) (length ms) ≡ b → near_kind ms ≡ k
    → near_here (cond b (Err unloaded.RoomTooShort) (cond k (Ok (near_earth_at ns (not (eqb (get_or ms 2 0) 0)))) (Err unloaded.DeepSpace))) ns ms
here_by ns ms true k hb hk = hb
here_by ns ms false true hb hk = record { long = hb; kind = hk; made = refl }
here_by ns ms false false hb hk = (hb, hk)

here : (ns : List Float) (ms : List ℕ) → near_here (near_loading_of ns ms) ns ms
unfolding near_loading_of
here ns ms = here_by ns ms (near_short (length ns) (length ms)) (near_kind ms) refl refl

pub loaded_here : (ns : List Float) (ms : List ℕ) (x : Result NearEarth NearRefusal) → x ≡ near_loading_of ns ms → near_here x ns ms
loaded_here ns ms x e = subst (λ z. near_here z ns ms) (sym e) (here ns ms)

-- ── the satellite there, by the full program's layout ──

pub near_satellite_lem : (ns : List Float) (ms : List ℕ) (n : NearEarth) → Near ns ms n → satellite_of ns ms ≡ holding (near_model n (epoch_in ms)) (place_at ns ms)
unfolding satellite_of model_at method_at
near_satellite_lem ns ms n h =
    ap (λ (b : Bool). record {
      model = record {
        near = near_earth_at ns (not (eqb (get_or ms 2 0) 0));
        method = cond b methods.NearEarth (methods.DeepSpace (deep_space_at ns (get_or ms 3 0)));
        epoch = epoch_in ms;
      };
      place = place_at ns ms;
    }) h.kind
    ∙ sym (ap (λ (k : NearEarth). holding (near_model k (epoch_in ms)) (place_at ns ms)) h.made)

beyond_by_lem : (ns : List Float) (ms : List ℕ) (b : Bool) → near_kind ms ≡ b → beyond (satellite_of ns ms) ≡ not b
unfolding satellite_of model_at method_at
beyond_by_lem ns ms true h = rw h near_taken
beyond_by_lem ns ms false h = rw h (deep_beyond (deep_space_at ns (get_or ms 3 0)))

pub held_short : (ns : List Float) (ms : List ℕ) → near_short (length ns) (length ms) ≡ true → deep_held ns ms ≡ false
unfolding deep_held
held_short ns ms h = ap (λ (b : Bool). cond b false (beyond (satellite_of ns ms))) h

pub held_kind : (ns : List Float) (ms : List ℕ) (b : Bool) → near_short (length ns) (length ms) ≡ false → near_kind ms ≡ b → deep_held ns ms ≡ not b
unfolding deep_held
held_kind ns ms b h k = ap (λ (c : Bool). cond c false (beyond (satellite_of ns ms))) h ∙ beyond_by_lem ns ms b k

-- ── how long such memory is ──

pub lengths : (n m : ℕ) → near_short n m ≡ false → (36 ≤ n) × (6 ≤ m)
unfolding near_short
lengths n m h = let p = neither (ltb n 36) (ltb m 6) h in (ltb-false n 36 p.0, ltb-false m 6 p.1)
