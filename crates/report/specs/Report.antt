-- Document 02, wish 4: the report of a whole text. Its lines, its pairs, how many of them have each property by the definitions of reading and
-- opening, and the earliest and the latest epoch of those accepted. Definitions only.
use Rattle.std.specs.Prelude.{ℕ, ◌+◌, ◌-◌, List, [], ◌∷◌, ◌++◌, Bool, true, false, cond, ltb, eqb, length, Err, None, Ok, Option, Result, Some}
use Rattle.opening.specs.declared.opening.Refusal.{Refusal as OpeningRefusal}
use Rattle.opening.specs.declared.opening.Satellite.{Satellite}
use Rattle.tle.specs.declared.Refusal.{Refusal}
use Rattle.instant.specs.declared.Instant.{Instant}
use Rattle.tle.specs.declared.Record.{Record}
use Rattle.report.specs.declared.ReportRefusal.{ReportRefusal}
use Rattle.report.specs.declared.ReportRefusal.TheVariants as report_refusal
use Rattle.instant.specs.Calendar.{epoch_of}
use Rattle.tle.specs.Read.{read_of}
use Rattle.tle.specs.Refusals.{number_of}
use Rattle.tle.specs.declared.Record as tle
use Rattle.satellite.specs.declared.Method.{Method}
use Rattle.satellite.specs.declared.Method.TheVariants as method
use Rattle.opening.specs.Opening.{open_of}
use Rattle.report.specs.declared.Stamp.{Stamp}
use Rattle.report.specs.declared.Tally.{Tally}
use Rattle.report.specs.declared.Kind.{Kind}
use Rattle.report.specs.declared.Kind.TheVariants.{Near, Deep, Unopened}

-- ── the lines and the pairs of a text ──

-- a last line without a newline counts if it has a byte
unfoldable pub left_over : List ℕ → List (List ℕ)
left_over [] = []
left_over (b ∷ line) = (b ∷ line) ∷ []

-- the lines of a text, where the bytes of its first line so far went before
unfoldable pub lines_from : List ℕ → List ℕ → List (List ℕ)
lines_from sofar [] = left_over sofar
lines_from sofar (b ∷ text) = cond (eqb b 10) (sofar ∷ lines_from [] text) (lines_from (sofar ++ (b ∷ [])) text)

abbrev pub lines_of : List ℕ → List (List ℕ)
lines_of text = lines_from [] text

pub record Pair : Type 0 where
  pub first : List ℕ
  pub second : List ℕ

-- a line left over is no pair
unfoldable pub pairs_of : List (List ℕ) → List Pair
pairs_of [] = []
pairs_of (a ∷ []) = []
pairs_of (a ∷ b ∷ lines) = record { first = a; second = b } ∷ pairs_of lines

unfoldable pub is_odd : List (List ℕ) → Bool
is_odd [] = false
is_odd (a ∷ []) = true
is_odd (a ∷ b ∷ lines) = is_odd lines

-- ── what is counted of a pair ──

-- the heading of an accepted record, by the opener's definition
unfoldable pub kind_by : Method → Kind
kind_by method.NearEarth = Near
kind_by (method.DeepSpace d) = Deep

unfoldable pub opened_kind : Result Satellite OpeningRefusal → Kind
opened_kind (Ok s) = kind_by s.model.method
opened_kind (Err why) = Unopened

unfoldable pub kind_of : tle.Record → Kind
kind_of r = opened_kind (open_of r)

unfoldable pub is_near : Kind → Bool
is_near Near = true
is_near Deep = false
is_near Unopened = false

unfoldable pub is_deep : Kind → Bool
is_deep Near = false
is_deep Deep = true
is_deep Unopened = false

unfoldable pub is_unopened : Kind → Bool
is_unopened Near = false
is_unopened Deep = false
is_unopened Unopened = true

-- the instant of an epoch; an accepted record's is never outside (`epochs_inside` of tle's proofs/Accepted)
unfoldable pub instant_of : Option Instant → ℕ
instant_of (Some t) = t.0
instant_of None = 0

unfoldable pub stamp_of : tle.Record → Stamp
stamp_of r = record { year = r.year; day = r.day; at = instant_of (epoch_of r.year r.day) }

-- the earlier and the later of two epochs, the first where they are one instant
unfoldable pub earlier : Stamp → Stamp → Stamp
earlier a b = cond (ltb b.at a.at) b a

unfoldable pub later : Stamp → Stamp → Stamp
later a b = cond (ltb a.at b.at) b a

abbrev pub reading_of : Pair → Result Record Refusal
reading_of p = read_of p.first p.second

-- ── the properties of a reading ──

unfoldable pub is_accepted : Result Record Refusal → Bool
is_accepted (Ok r) = true
is_accepted (Err why) = false

unfoldable pub is_refused : ℕ → Result Record Refusal → Bool
is_refused k (Ok r) = false
is_refused k (Err why) = eqb (number_of why) k

unfoldable pub opens_near : Result Record Refusal → Bool
opens_near (Ok r) = is_near (kind_of r)
opens_near (Err why) = false

unfoldable pub opens_deep : Result Record Refusal → Bool
opens_deep (Ok r) = is_deep (kind_of r)
opens_deep (Err why) = false

unfoldable pub opens_not : Result Record Refusal → Bool
opens_not (Ok r) = is_unopened (kind_of r)
opens_not (Err why) = false

-- ── counting ──

abbrev pub one : Bool → ℕ
one b = cond b 1 0

-- how many of the pairs have a property
unfoldable pub count : ((Result Record Refusal) → Bool) → List Pair → ℕ
count property [] = 0
count property (p ∷ pairs) = one (property (reading_of p)) + count property pairs

-- ── the epochs ──

-- the epochs of the accepted pairs, in order
abbrev pub epoch_and : Result Record Refusal → List Stamp → List Stamp
epoch_and (Ok r) stamps = stamp_of r ∷ stamps
epoch_and (Err why) stamps = stamps

unfoldable pub epochs_of : List Pair → List Stamp
epochs_of [] = []
epochs_of (p ∷ pairs) = epoch_and (reading_of p) (epochs_of pairs)

abbrev pub no_stamp : Stamp
no_stamp = record { year = 0; day = 0; at = 0 }

-- the earliest and the latest of epochs, the first met where several are one instant
unfoldable pub best : (Stamp → Stamp → Stamp) → Stamp → List Stamp → Stamp
best better s [] = s
best better s (x ∷ stamps) = best better (better s x) stamps

unfoldable pub best_of : (Stamp → Stamp → Stamp) → List Stamp → Stamp
best_of better [] = no_stamp
best_of better (s ∷ stamps) = best better s stamps

-- ── the report ──

-- the exact span in microseconds
unfoldable pub span_of : Stamp → Stamp → ℕ
span_of earliest latest = latest.at - earliest.at

-- every number of the report, by its heading
unfoldable pub tally_of : List Pair → Tally
tally_of pairs = record {
  accepted = count is_accepted pairs;
  refused = record {
    one = count (is_refused 1) pairs;
    two = count (is_refused 2) pairs;
    three = count (is_refused 3) pairs;
    four = count (is_refused 4) pairs;
    five = count (is_refused 5) pairs;
    six = count (is_refused 6) pairs;
  };
  near = count opens_near pairs;
  deep = count opens_deep pairs;
  unopened = count opens_not pairs;
  earliest = best_of earlier (epochs_of pairs);
  latest = best_of later (epochs_of pairs);
}

abbrev pub most_pairs : ℕ
most_pairs = 4096

-- 23, then 24, then the numbers
unfoldable pub report_of : List ℕ → Result Tally ReportRefusal
report_of text =
    let lines = lines_of text in
    let pairs = pairs_of lines in
    cond (ltb most_pairs (length pairs)) (Err report_refusal.TooMany) (cond (is_odd lines) (Err report_refusal.Odd) (Ok (tally_of pairs)))

-- document 02's number of a refusal, 0 where there is a report
unfoldable pub number : Result Tally ReportRefusal → ℕ
number (Ok t) = 0
number (Err report_refusal.TooMany) = 23
number (Err report_refusal.Odd) = 24
