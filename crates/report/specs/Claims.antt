-- What follows for every text, and what the state that is fed has to do with it. Proved in proofs/Claims.antt, from Counts, Times, Pieces and LineEnds there.
use Rattle.std.specs.Prelude.{ℕ, ◌+◌, ◌<◌, ◌≤◌, ◌≡◌, List, [], ◌∷◌, ◌++◌, cond, eqb, length, get_or, Ok}
use Rattle.instant.specs.Calendar.{epoch_micros}
use Rattle.tle.specs.declared.Record as tle
use Rattle.report.specs.declared.Stamp.{Stamp}
use Rattle.report.specs.declared.Tally.{Tally}
use Rattle.report.specs.declared.State.{State}
use Rattle.report.specs.Report.{lines_of, pairs_of, Pair, reading_of, stamp_of, span_of, tally_of, most_pairs, report_of}
use Rattle.report.specs.State.{tally_from, no_tally, fed, begun, finished}

-- ── the pieces in which a text comes do not matter ──

unfoldable pub joined : List (List ℕ) → List ℕ
joined [] = []
joined (p ∷ pieces) = p ++ joined pieces

unfoldable pub fed_all : State → List (List ℕ) → State
fed_all s [] = s
fed_all s (p ∷ pieces) = fed_all (fed s p) pieces

abbrev pub CutsDoNotMatter : Type 0
CutsDoNotMatter = (pieces : List (List ℕ)) → finished (fed_all begun pieces) ≡ report_of (joined pieces)

-- the numbers kept while pairs come in, one after the other, are the counts of all of them: none overflows
abbrev pub TallyCounts : Type 0
TallyCounts = (pairs : List Pair) → length pairs ≤ most_pairs → tally_from no_tally pairs ≡ tally_of pairs

-- ── what the numbers of a report say ──

-- every pair falls under exactly one heading of accepted or refused, and every accepted one under near, deep or unopened
pub record AddsUp (t : Tally) (pairs : List Pair) : Type 0 where
  pub all : t.accepted + (t.refused.one + (t.refused.two + (t.refused.three + (t.refused.four + (t.refused.five + t.refused.six))))) ≡ length pairs
  pub opened : t.near + (t.deep + t.unopened) ≡ t.accepted

-- the pair at a place of the list is accepted, and this is its record
pub record AcceptedAt (pairs : List Pair) (place : ℕ) (r : tle.Record) : Type 0 where
  pub inside : place < length pairs
  pub is : reading_of (get_or pairs place (record { first = []; second = [] })) ≡ Ok r

-- an epoch of an accepted pair
pub record EpochOf (pairs : List Pair) (s : Stamp) : Type 0 where
  pub place : ℕ
  pub of : tle.Record
  pub accepted : AcceptedAt pairs place of
  pub is : s ≡ stamp_of of

-- earliest and latest are epochs of accepted pairs, and no accepted epoch lies outside them
pub record Bounds (t : Tally) (pairs : List Pair) : Type 0 where
  pub earliest : EpochOf pairs t.earliest
  pub latest : EpochOf pairs t.latest
  pub none_outside : (place : ℕ) (r : tle.Record) → AcceptedAt pairs place r → (t.earliest.at ≤ (stamp_of r).at) × ((stamp_of r).at ≤ t.latest.at)

pub record Told (t : Tally) (pairs : List Pair) : Type 0 where
  pub few : length pairs ≤ most_pairs
  pub sums : AddsUp t pairs
  pub bounds : 0 < t.accepted → Bounds t pairs
  pub alone : t.accepted ≡ 1 → span_of t.earliest t.latest ≡ 0

-- of every text that is not refused
abbrev pub ReportTells : Type 0
ReportTells = (text : List ℕ) (t : Tally) → report_of text ≡ Ok t → Told t (pairs_of (lines_of text))

-- the instant of an accepted pair is that of its epoch, inside 1957-2056
abbrev pub StampsAreInstants : Type 0
StampsAreInstants = (p : Pair) (r : tle.Record) → reading_of p ≡ Ok r → (stamp_of r).at ≡ epoch_micros r.year r.day

-- ── the lines ──

-- The lines of a text, told from its end: a newline begins a line that is empty so far, and any other byte goes before the line that begins
-- there; where none does, at the end of the text, it is a line of its own
unfoldable pub grow : ℕ → List (List ℕ) → List (List ℕ)
grow b [] = (b ∷ []) ∷ []
grow b (line ∷ lines) = (b ∷ line) ∷ lines

unfoldable pub lines_back : List ℕ → List (List ℕ)
lines_back [] = []
lines_back (b ∷ text) = cond (eqb b 10) ([] ∷ lines_back text) (grow b (lines_back text))

abbrev pub LinesBothWays : Type 0
LinesBothWays = (text : List ℕ) → lines_of text ≡ lines_back text
