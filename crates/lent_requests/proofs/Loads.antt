-- What loading says of the memory.
use Prim.Native.Nat.{ℕ}
use mathlib.Core.Path.{◌≡◌, refl}
use mathlib.Core.Bool.{Bool, true, false, cond}
use mathlib.Core.List.{List}
use native.Mathlib.Omega.{arith}
use lib.ListN.{length}
use lib.Ieee.{Float}
use Rattle.opening.specs.declared.opening.Satellite.{Satellite}
use Rattle.std.specs.Prelude.{None, Some}
use Rattle.storage.specs.Storage.{too_short, satellite_of, loading_of}

absurd : {B : Type 0} → ⊥ → B
absurd = elim [ ]

held : (b : Bool) (s t : Satellite) → cond b None (Some t) ≡ Some s → (b ≡ false) × (s ≡ t)
held true s t e = let z : ◌≡◌ {A = ℕ} 0 1 = cc in absurd (omega arith)
held false s t e = (refl, cc)

short : (b : Bool) (t : Satellite) → cond b None (Some t) ≡ None → b ≡ true
short true t e = refl
short false t e = let z : ◌≡◌ {A = ℕ} 0 1 = cc in absurd (omega arith)

pub loaded : (ns : List Float) (ms : List ℕ) (s : Satellite) → loading_of ns ms ≡ Some s → (too_short (length ns) (length ms) ≡ false) × (s ≡ satellite_of ns ms)
unfolding loading_of
loaded ns ms s e = held (too_short (length ns) (length ms)) s (satellite_of ns ms) e

pub unloaded : (ns : List Float) (ms : List ℕ) → loading_of ns ms ≡ None → too_short (length ns) (length ms) ≡ true
unfolding loading_of
unloaded ns ms e = short (too_short (length ns) (length ms)) (satellite_of ns ms) e
