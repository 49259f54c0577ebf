-- What is known of a line that is read. No contract says what a read brings; but of whatever it brings not a byte is lost.
use Rattle.std.specs.Prelude.{ℕ, ◌≡◌, List, [], ◌++◌, Bool, true, false, cond, not, leb, ltb, take, drop}
use Rattle.line_input.specs.declared.Input.{Input}
use Rattle.line_input.specs.declared.Next.{Next}
use Rattle.text.specs.Output.{Put}
use Rattle.text.specs.Input.{line_of, rest_of, ended_in}

-- before anything is read
abbrev pub started : Input
started = record { at = 0; end = 0; over = false }

-- a newline ended the line, and the next waits from an index of the buffer to another
abbrev pub ended : ℕ → ℕ → ℕ → Next
ended at end size = record { input = record { at = at; end = end; over = false }; size = size; found = true }

-- nothing more is to be read
abbrev pub finished : ℕ → Bool → Next
finished size found = record { input = record { at = 0; end = 0; over = true }; size = size; found = found }

-- the bytes that were read and are no part of a line yet
unfoldable pub waiting : Input → List ℕ → List ℕ
waiting i buffer = cond i.over [] (drop i.at (take i.end buffer))

-- A line that has `size` bytes so far goes on with the bytes that waited and those that came after them, up to a newline;
-- what lies behind the newline waits. The line is found if a newline ends it or it has a byte, unless a read failed;
-- without a newline the input is over.
pub record Found (failed : Bool) (size : ℕ) (waited line buffer' line' : List ℕ) (r : Next) : Type 0 where
  pub came : List ℕ
  pub put : Put line size (line_of (waited ++ came)) line' r.size
  pub left : waiting r.input buffer' ≡ rest_of (waited ++ came)
  pub over : r.input.over ≡ not (ended_in (waited ++ came))
  pub found : r.found ≡ cond failed false (cond (ended_in (waited ++ came)) true (ltb 0 r.size))

-- After a failure nothing waits and nothing is found, and the failure stays marked.
pub record Nexts (failed : Bool) (input : Input) (buffer line : List ℕ) (failed' : Bool) (buffer' line' : List ℕ) (r : Next) : Type 0 where
  pub next : Found failed' 0 (cond failed [] (waiting input buffer)) line buffer' line' r
  pub marked : failed ≡ true → failed' ≡ true

-- a line that its room does not hold counts as an empty one
unfoldable pub whole_in : ℕ → ℕ → ℕ
whole_in size room = cond (leb size room) size 0
