-- Document 01, "Cases at the edges", those that count strides, as one statement over a list. Definitions only.
-- `edges_hold` of proofs/Edges has it for every newly opened resonant satellite.
use Rattle.std.specs.Prelude.{ℕ, ◌*◌, ◌≡◌, Bool, true, false, List, [], ◌∷◌, map, eqb, ℤ, pos, neg_ℤ}
use Rattle.opening.specs.declared.opening.Satellite.{Satellite}
use Rattle.sequences.specs.Demand3.{One, reported, row_alone}

-- single requests one after the other, in microseconds: whether each is refused with 9, and the strides that each reports
pub record Edge : Type 0 where
  pub times : List ℤ
  pub nine : List Bool
  pub strides : List ℕ

abbrev pub minute : ℕ
minute = 60000000

unfoldable pub edges : List Edge
edges =
    record { times = pos 315532800000000 ∷ []; nine = false ∷ []; strides = 7304 ∷ [] }
    ∷ record { times = pos 315532800000001 ∷ []; nine = true ∷ []; strides = 0 ∷ [] }
    ∷ record { times = pos (1440 * minute) ∷ pos (2880 * minute) ∷ pos (1440 * minute) ∷ neg_ℤ (pos (720 * minute)) ∷ []; nine = false ∷ false ∷ false ∷ false ∷ []; strides = 2 ∷ 2 ∷ 2 ∷ 1 ∷ [] }
    ∷ record { times = pos (719 * minute) ∷ pos (720 * minute) ∷ pos (1440 * minute) ∷ []; nine = false ∷ false ∷ false ∷ []; strides = 0 ∷ 1 ∷ 1 ∷ [] }
    ∷ []

abbrev pub refused_nine : Satellite → ℤ → Bool
refused_nine s t = eqb (row_alone s t).refusal 9

-- each holds of s
unfoldable pub Each : Satellite → List Edge → Type 0
Each s [] = Unit {0}
Each s (e ∷ es) = (map (refused_nine s) e.times ≡ e.nine) × (reported s (map One e.times) ≡ e.strides) × Each s es
