-- The state after a whole text, finished, is the report of that text (`whole`), in whatever pieces the text came.
use Prim.Native.Nat.{ℕ, suc, ◌<◌, ◌≤◌, ◌+◌}
use mathlib.Core.Path.{◌≡◌, refl, ap, ◌∙◌}
use mathlib.Core.List.{List, [], ◌∷◌, ◌++◌}
use mathlib.Core.Bool.{Bool, true, false, cond}
use native.Mathlib.Omega.{arith}
use lib.Dec.{ltb, eqb}
use lib.ListN.{length}
use borrow.Author.Tests.{ltb-true, ltb-false, lt-ltb, le-ltb, eq-eqb, ne_eqb}
use Rattle.text.specs.Input as text
use Rattle.text.specs.declared.input.Line.{Line}
use Rattle.text.proofs.Whole.{Holds, none, push_holds}
use Rattle.listing.proofs.Kept.{enough}
use Rattle.report.specs.declared.Tally.{Tally}
use Rattle.report.specs.declared.Count.{Count}
use Rattle.report.specs.declared.State.{State}
use Rattle.std.specs.Prelude.{Err, Ok, Result}
use Rattle.report.specs.declared.ReportRefusal.{ReportRefusal}
use Rattle.report.specs.declared.ReportRefusal.TheVariants as report_refusal
use Rattle.report.specs.Report.{left_over, lines_from, lines_of, Pair, pairs_of, is_odd, tally_of, most_pairs, report_of}
use Rattle.report.specs.State.{tallied, tally_from, no_tally, nothing, begun, with_pair, with_lines, settled, stepped, fed, closed, finished}
use Rattle.report.proofs.Counts.{tally_counts}

-- ── what the lines to come make of a count ──

unfoldable outcome : Count → List (List ℕ) → Result Tally ReportRefusal
outcome c [] = closed c false
outcome c (a ∷ []) = closed c true
outcome c (a ∷ b ∷ lines) = outcome (with_pair c a b) lines

-- the 70 bytes that are kept of each line decide
pub kept_pair : (c : Count) (f g : Line) (x y : List ℕ) → Holds f x → Holds g y → with_lines c f g ≡ with_pair c x y
unfolding with_lines with_pair tallied
kept_pair c f g x y h k = rw (h.front, k.front, enough x y)

abbrev pub at : Line → Line → ℕ → Count → State
at f g n c = record { lines = record { first = f; second = g; ended = n }; count = c }

-- the text has ended in the first line of a pair
end0 : (c : Count) (f g : Line) (x : List ℕ) → Holds f x → finished (at f g 0 c) ≡ outcome c (left_over x)
unfolding finished outcome left_over
end0 c f g [] h = rw (le-ltb 0 f.size (omega (arith, h.count)))
end0 c f g (b ∷ x) h = rw (lt-ltb 0 f.size (omega (arith, h.count)))

-- or in the second
end1 : (c : Count) (f g : Line) (x y : List ℕ) → Holds f x → Holds g y → finished (at f g 1 c) ≡ outcome c (x ∷ left_over y)
unfolding finished outcome left_over
end1 c f g x [] h k = rw (eq-eqb g.size 0 k.count)
end1 c f g x (b ∷ y) h k =
    rw (ne_eqb g.size 0 (λ e. omega (arith, k.count)), kept_pair c f g x (b ∷ y) h k)

-- a byte in the first line, and in the second
pub turn0 : (t : Bool) (c : Count) (f g : Line) (b : ℕ) → eqb b 10 ≡ t → stepped (at f g 0 c) b ≡ cond t (at f g 1 c) (at (text.pushed f b) g 0 c)
unfolding stepped text.stepped settled
turn0 true c f g b e = rw e
turn0 false c f g b e = rw e

pub turn1 : (t : Bool) (c : Count) (f g : Line) (b : ℕ) → eqb b 10 ≡ t
    → stepped (at f g 1 c) b ≡ cond t (at text.empty text.empty 0 (with_lines c f g)) (at f (text.pushed g b) 1 c)
unfolding stepped text.stepped settled
turn1 true c f g b e = rw e
turn1 false c f g b e = rw e

pub fed_more : (s r : State) (b : ℕ) (i : List ℕ) → stepped s b ≡ r → fed s (b ∷ i) ≡ fed r i
unfolding fed
fed_more s r b i e = rw e

Feeds0 : List ℕ → Type 0
Feeds0 i = (c : Count) (f g : Line) (x : List ℕ) → Holds f x → Holds g [] → finished (fed (at f g 0 c) i) ≡ outcome c (lines_from x i)

Feeds1 : List ℕ → Type 0
Feeds1 i = (c : Count) (f g : Line) (x y : List ℕ) → Holds f x → Holds g y → finished (fed (at f g 1 c) i) ≡ outcome c (x ∷ lines_from y i)

more0 : (t : Bool) (b : ℕ) (i : List ℕ) → eqb b 10 ≡ t → Feeds0 i → Feeds1 i → Feeds0 (b ∷ i)
unfolding Feeds0 Feeds1 lines_from
more0 true b i e p q c f g x h k = ap finished (fed_more _ _ b i (turn0 true c f g b e)) ∙ rw e (q c f g x [] h k)
more0 false b i e p q c f g x h k =
    ap finished (fed_more _ _ b i (turn0 false c f g b e)) ∙ rw e (p c (text.pushed f b) g (x ++ (b ∷ [])) (push_holds b h) k)

pair_next : (c : Count) (x y : List ℕ) (lines : List (List ℕ)) → outcome (with_pair c x y) lines ≡ outcome c (x ∷ y ∷ lines)
unfolding outcome
pair_next c x y lines = refl

more1 : (t : Bool) (b : ℕ) (i : List ℕ) → eqb b 10 ≡ t → Feeds0 i → Feeds1 i → Feeds1 (b ∷ i)
unfolding Feeds0 Feeds1 lines_from
more1 true b i e p q c f g x y h k =
    ap finished (fed_more _ _ b i (turn1 true c f g b e))
    ∙ p (with_lines c f g) text.empty text.empty [] none none
    ∙ rw e (ap (λ d. outcome d (lines_from [] i)) (kept_pair c f g x y h k) ∙ pair_next c x y (lines_from [] i))
more1 false b i e p q c f g x y h k =
    ap finished (fed_more _ _ b i (turn1 false c f g b e)) ∙ rw e (q c f (text.pushed g b) x (y ++ (b ∷ [])) h (push_holds b k))

record Feeds (i : List ℕ) : Type 0 where
  zero : Feeds0 i
  one : Feeds1 i

feeds : (i : List ℕ) → Feeds i
unfolding Feeds0 Feeds1 fed lines_from
feeds [] = record { zero = λ c f g x h k. end0 c f g x h; one = λ c f g x y h k. end1 c f g x y h k }
feeds (b ∷ i) =
    let r = feeds i in
    record { zero = more0 (eqb b 10) b i refl r.zero r.one; one = more1 (eqb b 10) b i refl r.zero r.one }

-- ── the whole text ──

-- past 4096 pairs only the number counts
over : (c : Count) (lines : List (List ℕ)) → most_pairs < c.pairs → outcome c lines ≡ Err report_refusal.TooMany
unfolding outcome closed with_pair
over c [] h = rw (lt-ltb most_pairs c.pairs h)
over c (a ∷ []) h = rw (lt-ltb most_pairs c.pairs h)
over c (a ∷ b ∷ lines) h = rw (le-ltb c.pairs most_pairs (omega arith)) (over (record { pairs = most_pairs + 1; tally = c.tally }) lines (omega arith))

abbrev judged : ℕ → Tally → List (List ℕ) → Result Tally ReportRefusal
judged n t lines = cond (ltb most_pairs (n + length (pairs_of lines))) (Err report_refusal.TooMany) (cond (is_odd lines) (Err report_refusal.Odd) (Ok (tally_from t (pairs_of lines))))

abbrev counts : ℕ → Tally → Count
counts n t = record { pairs = n; tally = t }

next_by : (d : Bool) (n : ℕ) (t : Tally) (a b : List ℕ) (lines : List (List ℕ)) → ltb n most_pairs ≡ d → n ≤ most_pairs
    → ((m : ℕ) → m ≤ most_pairs → outcome (counts m (tallied t a b)) lines ≡ judged m (tallied t a b) lines)
    → outcome (counts n t) (a ∷ b ∷ lines) ≡ judged n t (a ∷ b ∷ lines)
unfolding outcome with_pair pairs_of is_odd tally_from
next_by true n t a b lines e h r =
    let l : n < most_pairs = ltb-true n most_pairs e in
    let s : n + 1 + length (pairs_of lines) ≡ n + suc (length (pairs_of lines)) = omega arith in
    rw (e, ← s) (r (n + 1) (omega arith))
next_by false n t a b lines e h r =
    let l : most_pairs ≤ n = ltb-false n most_pairs e in
    rw (e, lt-ltb most_pairs (n + suc (length (pairs_of lines))) (omega arith)) (over (counts (most_pairs + 1) t) lines (omega arith))

judge : (lines : List (List ℕ)) (n : ℕ) (t : Tally) → n ≤ most_pairs → outcome (counts n t) lines ≡ judged n t lines
unfolding outcome closed pairs_of is_odd tally_from
judge [] n t h = rw (le-ltb most_pairs n h, le-ltb most_pairs (n + 0) (omega arith))
judge (a ∷ []) n t h = rw (le-ltb most_pairs n h, le-ltb most_pairs (n + 0) (omega arith))
judge (a ∷ b ∷ lines) n t h = next_by (ltb n most_pairs) n t a b lines refl h (λ m g. judge lines m (tallied t a b) g)

-- the numbers kept on the way are those of all pairs
as_counted : (m odd : Bool) (pairs : List Pair) → ltb most_pairs (length pairs) ≡ m
    → cond m (Err report_refusal.TooMany) (cond odd (Err report_refusal.Odd) (Ok (tally_from no_tally pairs))) ≡ cond m (Err report_refusal.TooMany) (cond odd (Err report_refusal.Odd) (Ok (tally_of pairs)))
as_counted true odd pairs e = refl
as_counted false odd pairs e = ap (λ t. cond odd (Err report_refusal.Odd) (Ok t)) (tally_counts pairs (ltb-false most_pairs (length pairs) e))

pub whole : (input : List ℕ) → finished (fed begun input) ≡ report_of input
unfolding report_of Feeds0
whole input =
    let lines = lines_of input in
    let z : 0 + length (pairs_of lines) ≡ length (pairs_of lines) = omega arith in
    (feeds input).zero nothing text.empty text.empty [] none none ∙ judge lines 0 no_tally (omega arith)
    ∙ rw z (as_counted (ltb most_pairs (length (pairs_of lines))) (is_odd lines) (pairs_of lines) refl)
