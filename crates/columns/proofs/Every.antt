-- A test computed of every number below n holds of each of them.
use Prim.Native.Nat.{ℕ, zero, suc, ◌<◌}
use mathlib.Core.Path.{◌≡◌, refl, ap, ◌∙◌}
use mathlib.Core.Bool.{Bool, true, false, ◌&&◌}
use native.Mathlib.Omega.{arith}
use borrow.Author.Tests.{eqb-true, eqb-false}
use lib.Dec.{eqb}
use Rattle.columns.proofs.Columns.{both}

abbrev pub every : (ℕ → Bool) → ℕ → Bool
every p zero = true
every p (suc n) = p n && every p n

-- the last of them, or one before it
at_last : (p : ℕ → Bool) (n i : ℕ) (t : Bool) → eqb i n ≡ t → i < suc n → p n ≡ true → (i < n → p i ≡ true) → p i ≡ true
at_last p n i true e h last before = ap p (eqb-true i n e) ∙ last
at_last p n i false e h last before = let d = eqb-false i n e in before (omega arith)

pub at : (p : ℕ → Bool) (n : ℕ) → every p n ≡ true → (i : ℕ) → i < n → p i ≡ true
at p zero e i h = absurd (omega arith)
at p (suc n) e i h = let b = both (p n) (every p n) e in at_last p n i (eqb i n) refl h b.0 (at p n b.1 i)
