-- A line that passes the test of its first three columns keeps the layout there, and in each later column where a byte fits a class but N.
use Prim.Native.Nat.{ℕ, ◌+◌, ◌-◌, ◌<◌, ◌≤◌}
use mathlib.Core.Path.{◌≡◌, sym, ◌∙◌}
use mathlib.Core.List.{List}
use mathlib.Core.Bool.{Bool, true, ◌&&◌, or-true}
use native.Mathlib.Omega.{arith}
use lib.Dec.{eqb}
use lib.ListN.{length, get_or}
use Rattle.columns.specs.Layout.{opens_number, fits_plain, fits}
use Rattle.columns.specs.Three.{itself, begins_as}
use Rattle.columns.proofs.Columns.{Kept, kept_first, kept_more}

plain_fits : (c : ℕ) (a : Bool) (b : ℕ) → fits_plain c a b ≡ true → fits c a b ≡ true
plain_fits c a b e = rw e

itself_fits : (c : ℕ) (a : Bool) (b : ℕ) → itself c b ≡ true → fits c a b ≡ true
itself_fits c a b e = rw e

opens_fits : (c : ℕ) (a : Bool) (b : ℕ) → (eqb c 78 && opens_number b) ≡ true → fits c a b ≡ true
opens_fits c a b e = rw e (or-true (fits_plain c a b))

module _ (cs bs : List ℕ) (same : length cs ≡ length bs) (long : 3 ≤ length bs) where
  pub plain_more : (keeps fit : Bool) (i : ℕ) → fit ≡ fits_plain (get_or cs i 0) (eqb (get_or bs (i - 1) 0) 32) (get_or bs i 0) → i < length bs
      → Kept cs bs keeps i → Kept cs bs (keeps && fit) (i + 1)
  plain_more keeps fit i f =
      kept_more cs bs same keeps fit i (λ e. plain_fits (get_or cs i 0) (eqb (get_or bs (i - 1) 0) 32) (get_or bs i 0) (sym f ∙ e))

  one : Kept cs bs (itself (get_or cs 0 0) (get_or bs 0 0)) 1
  one = kept_first cs bs same (itself (get_or cs 0 0) (get_or bs 0 0)) (itself_fits (get_or cs 0 0) true (get_or bs 0 0)) (omega arith)

  two : Kept cs bs (itself (get_or cs 0 0) (get_or bs 0 0) && itself (get_or cs 1 0) (get_or bs 1 0)) 2
  two =
      kept_more cs bs same (itself (get_or cs 0 0) (get_or bs 0 0)) (itself (get_or cs 1 0) (get_or bs 1 0)) 1
      (itself_fits (get_or cs 1 0) (eqb (get_or bs 0 0) 32) (get_or bs 1 0)) (omega arith) one

  pub three : Kept cs bs (begins_as cs bs) 3
  three =
      kept_more cs bs same (itself (get_or cs 0 0) (get_or bs 0 0) && itself (get_or cs 1 0) (get_or bs 1 0))
      (eqb (get_or cs 2 0) 78 && opens_number (get_or bs 2 0)) 2
      (opens_fits (get_or cs 2 0) (eqb (get_or bs 1 0) 32) (get_or bs 2 0)) (omega arith) two
