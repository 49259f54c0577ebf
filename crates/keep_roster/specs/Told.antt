-- What is told of a pair that a text lodges, and how the pairs are counted.
use Rattle.std.specs.Prelude.{ℕ, List, ◌++◌, Bool, true, false, cond, Err, Ok, Result}
use Rattle.pair_lines.specs.Said.{heading_text}
use Rattle.pair_steps.specs.Fate.{more}
use Rattle.roster_calls.specs.declared.LodgingRefusal.{LodgingRefusal}
use Rattle.roster_words.specs.Answers.{lodging_text}
use Rattle.keep_roster.specs.declared.input.Tally.{Tally}

-- the numbers of its lines, and the answer
unfoldable pub told_text : ℕ → ℕ → Result (Unit {0}) LodgingRefusal → List ℕ → List ℕ → List ℕ
told_text first second answer line1 line2 = heading_text first second ++ lodging_text answer line1 line2

unfoldable pub is_lodged : Result (Unit {0}) LodgingRefusal → Bool
is_lodged (Ok tt) = true
is_lodged (Err why) = false

unfoldable pub counted_with : Tally → Bool → Tally
counted_with t lodged = record { pairs = more t.pairs; lodged = cond lodged (more t.lodged) t.lodged }
