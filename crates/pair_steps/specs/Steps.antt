-- What a line comes to, what is said, and what the room of the line 1 that waits holds afterwards.
use Rattle.std.specs.Prelude.{ℕ, ◌≡◌, List, [], Bool, true, false, cond, length, take}
use Rattle.text.specs.Output.{Put}
use Rattle.line_input.specs.Lines.{whole_in}
use Rattle.pair_lines.specs.Said.{said_text, blank_text}
use Rattle.pair_lines.specs.declared.Remark.TheVariants as remark
use Rattle.pair_steps.specs.declared.Pairs.{Pairs}
use Rattle.pair_steps.specs.declared.Fate.{Fate}
use Rattle.pair_steps.specs.declared.Fate.TheVariants.{Waits, Completes, Blank, Alone}
use Rattle.pair_steps.specs.declared.What.{What}
use Rattle.pair_steps.specs.declared.What.TheVariants.{Pair, Said, Over}
use Rattle.pair_steps.specs.declared.Step.{Step}
use Rattle.pair_steps.specs.Fate.{waiting, counted, fate_in}

-- before the first line
abbrev pub started : Pairs
started = record { lines = 0; held = 0; size = 0 }

unfoldable pub is_over : What → Bool
is_over (Pair n m) = false
is_over (Said n) = false
is_over Over = true

-- with the line 1 of such a number and size, none with 0 and 0
abbrev pub holding : Pairs → ℕ → ℕ → Pairs
holding p held size = record { lines = p.lines; held = held; size = size }

abbrev pub saying : Pairs → ℕ → Step
saying p printed = record { pairs = p; what = Said printed; first = 0 }

-- the line 1 that waits, if one does, is said to stand alone
unfoldable pub given_up : Pairs → List ℕ → List ℕ
given_up p line1 = cond (waiting p) (said_text p.held remark.NoSecond (take (whole_in p.size (length line1)) line1)) []

-- what is said when a line is taken
unfoldable pub said_of : Pairs → Fate → List ℕ → List ℕ → List ℕ
said_of p Waits line1 line = given_up p line1
said_of p Completes line1 line = []
said_of p Blank line1 line = blank_text p.lines
said_of p (Alone why) line1 line = said_text p.lines why line

-- what is put into the room of the line 1 that waits
unfoldable pub held_of : Fate → List ℕ → List ℕ
held_of Waits line = line
held_of Completes line = []
held_of Blank line = []
held_of (Alone why) line = []

-- the step of a line that has so many bytes, of which so many are held, where so many bytes are said
unfoldable pub step_of : Pairs → Fate → ℕ → ℕ → ℕ → Step
step_of p Waits size held printed = saying (holding p p.lines held) printed
step_of p Completes size held printed = record { pairs = holding p 0 0; what = Pair p.size size; first = p.held }
step_of p Blank size held printed = saying p printed
step_of p (Alone why) size held printed = saying p printed

-- a line is taken: the step, and all of the two rooms afterwards
pub record Takes (p : Pairs) (fate : Fate) (line1 line out line1' out' : List ℕ) (r : Step) : Type 0 where
  pub held : ℕ
  pub printed : ℕ
  pub holds : Put line1 0 (held_of fate line) line1' held
  pub says : Put out 0 (said_of p fate line1 line) out' printed
  pub step : r ≡ step_of p fate (length line) held printed

-- the next line of a text, of so many bytes in its room
abbrev pub TakesNext : Pairs → ℕ → List ℕ → List ℕ → List ℕ → List ℕ → List ℕ → Step → Type 0
TakesNext p size line1 room out line1' out' r = Takes (counted p) (fate_in (counted p) size room) line1 (take size room) out line1' out' r

-- the end of a text: a line 1 that waits is said to stand alone, and the next step is the last
unfoldable pub last_of : Pairs → ℕ → Step
last_of p printed = cond (waiting p) (saying (holding p 0 0) printed) (record { pairs = p; what = Over; first = 0 })

pub record Ends (p : Pairs) (line1 out out' : List ℕ) (r : Step) : Type 0 where
  pub printed : ℕ
  pub says : Put out 0 (given_up p line1) out' printed
  pub step : r ≡ last_of p printed
