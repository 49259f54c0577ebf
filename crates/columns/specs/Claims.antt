-- What is claimed of the columns, beyond their definition. Proved in proofs/Prefix.antt.
use Rattle.std.specs.Prelude.{ℕ, ◌+◌, ◌-◌, ◌≡◌, true, List, length, take}
use Rattle.columns.specs.Layout.{agreed, Lawful, layout1, layout2}

-- some lawful line has the same bytes in the first n columns
abbrev pub Agrees : List ℕ → ℕ → List ℕ → Type 0
Agrees layout n line = (l : List ℕ) × Lawful layout l × (take n l ≡ take n line)

-- one agrees with all columns before it, and none with it included
pub record FirstFault (layout line : List ℕ) (column : ℕ) : Type 0 where
  pub before : Agrees layout (column - 1) line
  pub at : Agrees layout column line → ⊥

-- of a line that is as long as its layout and not lawful, the column after those that agree is the first at which no lawful line agrees so far
abbrev pub FirstOf : List ℕ → Type 0
FirstOf layout =
    (line : List ℕ) (column : ℕ) → length line ≡ length layout → (agreed layout true line ≡ length layout → ⊥)
    → agreed layout true line + 1 ≡ column → FirstFault layout line column

abbrev pub FirstFaults : Type 0
FirstFaults = FirstOf layout1 × FirstOf layout2
