-- What is told of a pair of a text, and how the pairs are counted.
use Rattle.std.specs.Prelude.{ℕ, List, ◌++◌, Bool, cond}
use Rattle.pair_lines.specs.Said.{heading_text}
use Rattle.pair_steps.specs.Fate.{more}
use Rattle.tle.specs.Read.{read_of}
use Rattle.explanation.specs.Explained.{reading_text}
use Rattle.explain.specs.declared.input.Tally.{Tally}

-- the numbers of its lines, and the explanation
unfoldable pub told_text : ℕ → ℕ → List ℕ → List ℕ → List ℕ
told_text first second line1 line2 = heading_text first second ++ reading_text (read_of line1 line2) line1 line2

unfoldable pub counted_with : Tally → Bool → Tally
counted_with t well = record { pairs = more t.pairs; well = cond well (more t.well) t.well }
