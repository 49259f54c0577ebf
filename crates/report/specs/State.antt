-- The state that holds the report of a text while it comes in, one byte after the other, in pieces of any size. Definitions only.
use Rattle.std.specs.Prelude.{ℕ, ◌+◌, ◌≡◌, List, [], ◌∷◌, Bool, true, false, cond, ltb, eqb, Err, Ok, Result}
use Rattle.text.specs.Input as text
use Rattle.text.specs.declared.input.Line.{Line}
use Rattle.text.specs.declared.input.Lines.{Lines}
use Rattle.tle.specs.Read.{read_of}
use Rattle.tle.specs.Refusals.{number_of}
use Rattle.tle.specs.declared.Record.{Record}
use Rattle.tle.specs.declared.Refusal.{Refusal}
use Rattle.report.specs.declared.ReportRefusal.{ReportRefusal}
use Rattle.report.specs.declared.ReportRefusal.TheVariants as report_refusal
use Rattle.report.specs.declared.Stamp.{Stamp}
use Rattle.report.specs.declared.Refusals.{Refusals}
use Rattle.report.specs.declared.Tally.{Tally}
use Rattle.report.specs.declared.Count.{Count}
use Rattle.report.specs.declared.State.{State}
use Rattle.report.specs.declared.Kind.{Kind}
use Rattle.report.specs.declared.Kind.TheVariants.{Near, Deep, Unopened}
use Rattle.report.specs.Report.{Pair, kind_of, is_near, is_deep, is_unopened, stamp_of, earlier, later, no_stamp, most_pairs}

-- ── the heading ──

-- of a record opened into memory: what that answered, and the kind that it left there, 0 near Earth (crate storage)
unfoldable pub marked_kind : ℕ → ℕ → Kind
marked_kind answer mark = cond (ltb 0 answer) Unopened (cond (ltb 0 mark) Deep Near)

-- ── the tally, one pair after the other ──

-- the epoch to compare with: the first accepted pair has only its own
unfoldable pub first_stamp : ℕ → Stamp → Stamp → Stamp
first_stamp accepted old new = cond (eqb accepted 0) new old

-- one more where a pair has the property; the largest u64 stays
unfoldable pub plus : Bool → ℕ → ℕ
plus property n = cond property (cond (ltb n 18446744073709551615) (n + 1) n) n

unfoldable pub refused_by : Refusals → ℕ → Refusals
refused_by r k = record {
  one = plus (eqb k 1) r.one;
  two = plus (eqb k 2) r.two;
  three = plus (eqb k 3) r.three;
  four = plus (eqb k 4) r.four;
  five = plus (eqb k 5) r.five;
  six = plus (eqb k 6) r.six;
}

unfoldable pub with_refusal : Tally → ℕ → Tally
with_refusal t k = record {
  accepted = t.accepted;
  refused = refused_by t.refused k;
  near = t.near;
  deep = t.deep;
  unopened = t.unopened;
  earliest = t.earliest;
  latest = t.latest;
}

unfoldable pub with_kind : Tally → Kind → Stamp → Tally
with_kind t kind stamp = record {
  accepted = plus true t.accepted;
  refused = t.refused;
  near = plus (is_near kind) t.near;
  deep = plus (is_deep kind) t.deep;
  unopened = plus (is_unopened kind) t.unopened;
  earliest = earlier (first_stamp t.accepted t.earliest stamp) stamp;
  latest = later (first_stamp t.accepted t.latest stamp) stamp;
}

unfoldable pub with_reading : Tally → Result Record Refusal → Tally
with_reading t (Ok r) = with_kind t (kind_of r) (stamp_of r)
with_reading t (Err why) = with_refusal t (number_of why)

unfoldable pub tallied : Tally → List ℕ → List ℕ → Tally
tallied t line1 line2 = with_reading t (read_of line1 line2)

-- the tally of pairs, after one that came before
unfoldable pub tally_from : Tally → List Pair → Tally
tally_from t [] = t
tally_from t (p ∷ pairs) = tally_from (tallied t p.first p.second) pairs

abbrev pub no_tally : Tally
no_tally = record {
  accepted = 0;
  refused = record { one = 0; two = 0; three = 0; four = 0; five = 0; six = 0 };
  near = 0;
  deep = 0;
  unopened = 0;
  earliest = no_stamp;
  latest = no_stamp;
}

-- ── the state ──

abbrev pub nothing : Count
nothing = record { pairs = 0; tally = no_tally }

-- no pair has begun
abbrev pub fresh : Count → State
fresh c = record { lines = text.started; count = c }

abbrev pub begun : State
begun = fresh nothing

-- one pair more; past 4096 the number stays at 4097
unfoldable pub with_pair : Count → List ℕ → List ℕ → Count
with_pair c line1 line2 =
    cond (ltb c.pairs most_pairs)
    (record { pairs = c.pairs + 1; tally = tallied c.tally line1 line2 })
    (record { pairs = most_pairs + 1; tally = c.tally })

unfoldable pub with_lines : Count → Line → Line → Count
with_lines c first second = with_pair c (text.held first) (text.held second)

unfoldable pub settled : Lines → Count → State
settled lines c =
    cond (ltb lines.ended 2) (record { lines = lines; count = c })
    (record { lines = text.started; count = with_lines c lines.first lines.second })

-- one byte more, and one piece more, of the text
unfoldable pub stepped : State → ℕ → State
stepped s b = settled (text.stepped s.lines b) s.count

unfoldable pub fed : State → List ℕ → State
fed s [] = s
fed s (b ∷ bs) = fed (stepped s b) bs

unfoldable pub closed : Count → Bool → Result Tally ReportRefusal
closed c odd = cond (ltb most_pairs c.pairs) (Err report_refusal.TooMany) (cond odd (Err report_refusal.Odd) (Ok c.tally))

-- the text has ended
unfoldable pub finished : State → Result Tally ReportRefusal
finished s =
    let lines = s.lines in
    cond (eqb lines.ended 0) (closed s.count (ltb 0 lines.first.size))
    (cond (eqb lines.second.size 0) (closed s.count true) (closed (with_lines s.count lines.first lines.second) false))

-- r is the state s after some more of the text: all that can be said of a function that reads it
pub record More (s r : State) : Type 0 where
  pub piece : List ℕ
  pub is : r ≡ fed s piece
