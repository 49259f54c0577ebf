-- How long a text can be, so that counting it does not stop.
use Prim.Native.Nat.{ℕ, zero, suc, ◌+◌, ◌/◌, ◌%◌, ◌≤◌}
use mathlib.Core.List.{List, [], ◌∷◌, ◌++◌}
use mathlib.Core.Bool.{Bool, true, false, cond}
use native.Mathlib.Omega.{arith}
use lib.Dec.{ltb}
use lib.IntN.{ℤ, pos, negsuc}
use lib.ListN.{length, length-append}
use Rattle.text.specs.Output.{spell, decimal, signed, places, line}

pub record Within (s : List ℕ) (a : ℕ) : Type 0 where
  pub at_most : length s ≤ a

pub within : {s t : List ℕ} {a b : ℕ} → Within s a → Within t b → Within (s ++ t) (a + b)
within {s} {t} h g = record { at_most = simp length-append (omega arith) }

one_of : (b : Bool) (s t : List ℕ) (k : ℕ) → length s ≤ k → length t ≤ k → length (cond b s t) ≤ k
one_of true s t k h g = h
one_of false s t k h g = g

spell_within : (w n : ℕ) → length (spell w n) ≤ w
unfolding spell
spell_within zero n = omega arith
spell_within (suc w) n =
    one_of (ltb n 10) ((48 + n) ∷ []) (spell w (n / 10) ++ ((48 + n % 10) ∷ [])) (suc w) (omega arith)
    (simp length-append (omega (arith, spell_within w (n / 10))))

pub decimal_within : (n : ℕ) → Within (decimal n) 20
decimal_within n = record { at_most = spell_within 20 n }

pub signed_within : (z : ℤ) → Within (signed z) 21
unfolding signed
signed_within (pos n) = record { at_most = omega (arith, spell_within 20 n) }
signed_within (negsuc n) = record { at_most = omega (arith, spell_within 20 (suc n)) }

places_within : (base w n : ℕ) → length (places base w n) ≤ w
unfolding places
places_within base zero n = omega arith
places_within base (suc w) n = simp length-append (omega (arith, places_within base w (n / base)))

pub five_within : (n : ℕ) → Within (places 10 5 n) 5
five_within n = record { at_most = places_within 10 5 n }

pub line_within : (l : List ℕ) {v : List ℕ} {k : ℕ} → Within v k → Within (line l v) (length l + (k + 1))
unfolding line
line_within l {v} {k} h = record { at_most = simp length-append (omega (arith, h.at_most)) }
