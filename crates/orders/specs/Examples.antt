-- Wish 14: orders of some times, with the strides that a newly opened resonant satellite takes for them, and the least that any order of them takes. The last two
-- take the sides in turns, and one after the other. Definitions only.
-- `examples_hold` of proofs/Examples has them all.
use Rattle.std.specs.Prelude.{ℕ, ◌*◌, ◌≡◌, List, [], ◌∷◌, ℤ, pos, neg_ℤ}
use Rattle.opening.specs.declared.opening.Satellite.{Satellite}
use Rattle.requests.specs.Lists.{listed}
use Rattle.orders.specs.Best.{both_sides}

pub record Example : Type 0 where
  pub times : List ℤ
  pub taken : ℕ
  pub least : ℕ

abbrev pub minutes : ℕ → ℤ
minutes n = pos (n * 60000000)

unfoldable pub examples : List Example
examples =
    record { times = minutes 1440 ∷ neg_ℤ (minutes 720) ∷ minutes 2880 ∷ minutes 0 ∷ []; taken = 7; least = 5 }
    ∷ record { times = minutes 0 ∷ minutes 1440 ∷ minutes 2880 ∷ neg_ℤ (minutes 720) ∷ []; taken = 5; least = 5 }
    ∷ record { times = minutes 0 ∷ neg_ℤ (minutes 720) ∷ minutes 1440 ∷ minutes 2880 ∷ []; taken = 5; least = 5 }
    ∷ record { times = minutes 2880 ∷ minutes 1440 ∷ minutes 0 ∷ neg_ℤ (minutes 720) ∷ []; taken = 7; least = 5 }
    ∷ record { times = minutes 0 ∷ minutes 720 ∷ neg_ℤ (minutes 720) ∷ minutes 1440 ∷ neg_ℤ (minutes 1440) ∷ []; taken = 6; least = 4 }
    ∷ record { times = minutes 0 ∷ minutes 720 ∷ minutes 1440 ∷ neg_ℤ (minutes 720) ∷ neg_ℤ (minutes 1440) ∷ []; taken = 4; least = 4 }
    ∷ []

-- each, in rooms that are long enough
unfoldable pub Each : Satellite → List Example → Type 0
Each s [] = Unit {0}
Each s (x ∷ xs) = ((listed s x.times 1024 6144 1024).strides.0 ≡ x.taken) × (both_sides s x.times ≡ x.least) × Each s xs
