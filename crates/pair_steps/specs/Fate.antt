-- What becomes of a line of a text of pairs: by what it is, and whether a line 1 waits for its line 2.
use Rattle.std.specs.Prelude.{ℕ, ◌+◌, min, List, Bool, cond, leb, ltb, length, take}
use Rattle.text.specs.Output.{most}
use Rattle.pair_lines.specs.Sort.{sort_of}
use Rattle.pair_lines.specs.declared.Sort.{Sort}
use Rattle.pair_lines.specs.declared.Sort.TheVariants as sort
use Rattle.pair_lines.specs.declared.Remark.TheVariants as remark
use Rattle.pair_steps.specs.declared.Pairs.{Pairs}
use Rattle.pair_steps.specs.declared.Fate.{Fate}
use Rattle.pair_steps.specs.declared.Fate.TheVariants.{Waits, Completes, Blank, Alone}

-- Behind a line 1 that waits, any line but a blank one and another line 1 is its line 2: what is wrong with it is for
-- the reader of the pair to say. Where none waits, a line of 69 bytes is a line 1, whatever it begins with.
unfoldable pub fate_of : Bool → Sort → Fate
fate_of waiting sort.Blank = Blank
fate_of waiting sort.One = Waits
fate_of waiting sort.Two = cond waiting Completes (Alone remark.NoFirst)
fate_of waiting sort.Whole = cond waiting Completes Waits
fate_of waiting sort.Other = cond waiting Completes (Alone remark.Name)

-- lines are counted from 1, so that the number 0 is none
abbrev pub waiting : Pairs → Bool
waiting p = ltb 0 p.held

-- a line of so many bytes in its room; one that the room does not hold is in no pair, whatever it is
unfoldable pub fate_in : Pairs → ℕ → List ℕ → Fate
fate_in p size room = cond (leb size (length room)) (fate_of (waiting p) (sort_of (take size room))) (Alone remark.TooLong)

-- one more; the largest number stays: no text is that long
abbrev pub more : ℕ → ℕ
more n = min (n + 1) most

-- one line more
abbrev pub counted : Pairs → Pairs
counted p = record { lines = more p.lines; held = p.held; size = p.size }
