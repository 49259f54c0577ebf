-- Polynomials by Horner's rule. Definitions only.
use Rattle.std.specs.Prelude.{ℕ, List, [], ◌∷◌, Float}
use Rattle.floats.specs.Notation.{◌⊕◌, ◌⊗◌, ◌⊘◌, dec}

-- 1 / n, rounded once
abbrev pub inv : ℕ → Float
inv n = dec 1 0 ⊘ dec n 0

-- the polynomial in z whose highest coefficient is p, and whose others follow in falling order
unfoldable pub horner : Float → Float → List Float → Float
horner z p [] = p
horner z p (c ∷ cs) = horner z (p ⊗ z ⊕ c) cs
