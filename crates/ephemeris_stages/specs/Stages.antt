-- The lines in front of the requests of `ephemeris`: `commas` or not, and a pair. Definitions only.
use Rattle.std.specs.Prelude.{ℕ, ◌%◌, ◌≡◌, List, [], Bool, true, false, cond, eqb, Float, length, take, get_or, Result}
use Rattle.text.specs.Output.{Put, bytes, decimal, line}
use Rattle.line_input.specs.Lines.{whole_in}
use Rattle.opening.specs.Opening.{open_pair_of}
use Rattle.opening.specs.declared.opening.Satellite.{Satellite}
use Rattle.opening.specs.declared.opening.PairRefusal.{PairRefusal}
use Rattle.storage.specs.Storage.{epoch_at}
use Rattle.lent_opening.specs.Opening.{open_answer, open_numbers, open_marks}
use Rattle.ephemeris_requests.specs.Requests.{commas_in}
use Rattle.ephemeris_text.specs.Rows.{header_text}
use Rattle.ephemeris_stages.specs.declared.Stage.{Stage}
use Rattle.ephemeris_stages.specs.declared.Stage.TheVariants.{Start, First, Second, Asking, Over}
use Rattle.ephemeris_stages.specs.declared.Staged.{Staged}

-- lines of a pair that the input ends without are empty
unfoldable pub wants_line : Stage → Bool
wants_line Start = true
wants_line (First sep) = true
wants_line (Second sep size) = true
wants_line (Asking sheet) = false
wants_line Over = false

-- the pair of a second line and a first one in its room; one that the room does not hold counts as an empty one
abbrev pub pair_in : ℕ → List ℕ → List ℕ → Result Satellite PairRefusal
pair_in size first line2 = open_pair_of (take (whole_in size (length first)) first) line2

-- the number that refuses a pair, 0 where it is opened: bits 0-7 of the answer, of memory with 83 numbers and 6 marks
unfoldable pub refusal_of : Result Satellite PairRefusal → ℕ
refusal_of p = open_answer p 83 6 % 256

-- what is said of a pair: the header, or that it is refused
unfoldable pub opened_text : ℕ → ℕ → List ℕ
opened_text sep refusal = cond (eqb refusal 0) (header_text sep) (line (bytes "refused ") (decimal refusal))

-- the stage behind a pair, by the marks of the opened satellite
unfoldable pub opened_stage : ℕ → ℕ → List ℕ → Stage
opened_stage sep refusal ms = cond (eqb refusal 0) (Asking (record { sep = sep; epoch = epoch_at (get_or ms 4 0) (get_or ms 5 0) })) Over

-- the line that is put into the room of a pair's first line
unfoldable pub kept_of : Stage → List ℕ → List ℕ
kept_of Start l = cond (commas_in l) [] l
kept_of (First sep) l = l
kept_of (Second sep size) l = []
kept_of (Asking sheet) l = []
kept_of Over l = []

unfoldable pub said_of : Stage → List ℕ → List ℕ → List ℕ
said_of Start first l = []
said_of (First sep) first l = []
said_of (Second sep size) first l = opened_text sep (refusal_of (pair_in size first l))
said_of (Asking sheet) first l = []
said_of Over first l = []

unfoldable pub numbers_of : Stage → List ℕ → List ℕ → List Float → List ℕ → List Float
numbers_of Start first l ns ms = ns
numbers_of (First sep) first l ns ms = ns
numbers_of (Second sep size) first l ns ms = open_numbers (pair_in size first l) ns ms
numbers_of (Asking sheet) first l ns ms = ns
numbers_of Over first l ns ms = ns

unfoldable pub marks_of : Stage → List ℕ → List ℕ → List Float → List ℕ → List ℕ
marks_of Start first l ns ms = ms
marks_of (First sep) first l ns ms = ms
marks_of (Second sep size) first l ns ms = open_marks (pair_in size first l) ns ms
marks_of (Asking sheet) first l ns ms = ms
marks_of Over first l ns ms = ms

-- the stage behind a line, of which so many bytes are kept, by the marks that it leaves
unfoldable pub stage_of : Stage → List ℕ → List ℕ → List ℕ → ℕ → Stage
stage_of Start first l ms kept = cond (commas_in l) (First 44) (Second 32 kept)
stage_of (First sep) first l ms kept = Second sep kept
stage_of (Second sep size) first l ms kept = opened_stage sep (refusal_of (pair_in size first l)) ms
stage_of (Asking sheet) first l ms kept = Asking sheet
stage_of Over first l ms kept = Over

-- a line is taken at a stage: the stage behind it, what is said, and all of the lent memory afterwards
pub record Takes (stage : Stage) (first l room : List ℕ) (ns : List Float) (ms first' room' : List ℕ) (ns' : List Float) (ms' : List ℕ) (r : Staged) : Type 0 where
  pub kept : ℕ
  pub keeps : Put first 0 (kept_of stage l) first' kept
  pub says : Put room 0 (said_of stage first l) room' r.said
  pub numbers : ns' ≡ numbers_of stage first l ns ms
  pub marks : ms' ≡ marks_of stage first l ns ms
  pub behind : r.stage ≡ stage_of stage first l ms' kept

-- the line that the input begins with
pub record Begins (first l first' : List ℕ) (r : Stage) : Type 0 where
  pub kept : ℕ
  pub keeps : Put first 0 (cond (commas_in l) [] l) first' kept
  pub behind : r ≡ cond (commas_in l) (First 44) (Second 32 kept)

-- a pair is opened
pub record Opens (sep size : ℕ) (first l room : List ℕ) (ns : List Float) (ms room' : List ℕ) (ns' : List Float) (ms' : List ℕ) (r : Staged) : Type 0 where
  pub says : Put room 0 (opened_text sep (refusal_of (pair_in size first l))) room' r.said
  pub numbers : ns' ≡ open_numbers (pair_in size first l) ns ms
  pub marks : ms' ≡ open_marks (pair_in size first l) ns ms
  pub behind : r.stage ≡ opened_stage sep (refusal_of (pair_in size first l)) ms'
