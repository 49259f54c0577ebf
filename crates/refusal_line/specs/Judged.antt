-- Document 02, wish 9: what an owner is told of two lines. Their form is judged first, then what their fields mean.
use Rattle.std.specs.Prelude.{ℕ, List, ◌++◌, Err, Ok, Result}
use Rattle.text.specs.Output.{bytes}
use Rattle.tle.specs.Read.{meaning_of}
use Rattle.tle.specs.declared.Record.{Record}
use Rattle.tle.specs.declared.Refusal.{Refusal}
use Rattle.tle.specs.declared.Fields.{Fields}
use Rattle.refusal_line.specs.Refusal.{refusal_text}

unfoldable pub meaning_text : Result Record Refusal → List ℕ
meaning_text (Ok r) = bytes "in range\n"
meaning_text (Err why) = refusal_text why

-- "your line is well formed, the angle is impossible"
unfoldable pub judged_text : Result Fields Refusal → List ℕ
judged_text (Ok f) = bytes "well formed\n" ++ meaning_text (meaning_of f)
judged_text (Err why) = refusal_text why
