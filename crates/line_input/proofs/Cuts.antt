-- Of two pieces, the first of which has no newline, a line ends and what lies behind it begins as in the second.
use Prim.Native.Nat.{ℕ, ◌+◌}
use mathlib.Core.Path.{◌≡◌, refl, sym, ap, ◌∙◌}
use mathlib.Core.List.{List, [], ◌∷◌, ◌++◌}
use mathlib.Core.Bool.{Bool, true, false, cond, false≢true}
use native.Mathlib.Nat.{suc-add}
use lib.Dec.{eqb}
use lib.ListN.{length, drop}
use Rattle.text.specs.Input.{line_of, rest_of, ended_in}

on : {A : Type 0} (t z : Bool) (x y w : A) → cond t true z ≡ false → (z ≡ false → y ≡ w) → cond t x y ≡ w
on true z x y w e g = absurd (false≢true (sym e))
on false z x y w e g = g e

pub ended_cuts : (a b : List ℕ) → ended_in a ≡ false → ended_in (a ++ b) ≡ ended_in b
unfolding ended_in
ended_cuts [] b e = refl
ended_cuts (x ∷ a) b e = on (eqb x 10) (ended_in a) true (ended_in (a ++ b)) (ended_in b) e (ended_cuts a b)

pub rest_cuts : (a b : List ℕ) → ended_in a ≡ false → rest_of (a ++ b) ≡ rest_of b
unfolding rest_of ended_in
rest_cuts [] b e = refl
rest_cuts (x ∷ a) b e = on (eqb x 10) (ended_in a) (a ++ b) (rest_of (a ++ b)) (rest_of b) e (rest_cuts a b)

pub no_rest : (a : List ℕ) → ended_in a ≡ false → rest_of a ≡ []
unfolding rest_of ended_in
no_rest [] e = refl
no_rest (x ∷ a) e = on (eqb x 10) (ended_in a) a (rest_of a) [] e (no_rest a)

behind_by : (t : Bool) (x : ℕ) (r : List ℕ) → cond t true (ended_in r) ≡ true → (ended_in r ≡ true → drop (length (line_of r) + 1) r ≡ rest_of r)
    → drop (length (cond t [] (x ∷ line_of r)) + 1) (x ∷ r) ≡ cond t r (rest_of r)
behind_by true x r e g = refl
behind_by false x r e g = ap (λ k. drop k (x ∷ r)) (suc-add (length (line_of r)) 1) ∙ g e

-- what lies behind a line and its newline
pub behind : (r : List ℕ) → ended_in r ≡ true → drop (length (line_of r) + 1) r ≡ rest_of r
unfolding line_of rest_of ended_in
behind [] e = absurd (false≢true e)
behind (x ∷ r) e = behind_by (eqb x 10) x r e (behind r)
