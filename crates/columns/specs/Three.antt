-- Serves speed alone: the first three columns judged before the others, so that these need no test of class N. A line that passes keeps
-- the layout there (proofs/ThreeSame.antt); one that does not is judged column by column.
use Rattle.std.specs.Prelude.{ℕ, List, Bool, ◌&&◌, ltb, eqb, get_or}
use Prim.Native.Char.{code}
use Rattle.columns.specs.Layout.{opens_number}

-- a class that stands for that byte itself
abbrev pub itself : ℕ → ℕ → Bool
itself class b = eqb class b && ltb class (code "A")

-- a line begins as its layout: two bytes themselves, and the first place of a catalogue number
abbrev pub begins_as : List ℕ → List ℕ → Bool
begins_as layout line =
    itself (get_or layout 0 0) (get_or line 0 0) && itself (get_or layout 1 0) (get_or line 1 0)
    && (eqb (get_or layout 2 0) (code "N") && opens_number (get_or line 2 0))
