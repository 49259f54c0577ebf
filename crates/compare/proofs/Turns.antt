-- One turn of the two-index merge after the other writes the whole listing.
use Prim.Native.Nat.{ℕ, ◌+◌, ◌-◌, ◌*◌, ◌<◌, ◌≤◌}
use mathlib.Core.Path.{◌≡◌, refl, ap, sym, ◌∙◌, subst}
use borrow.Author.Tests.{lt-ltb, le-ltb, eq-eqb, ne_eqb, eqb-true}
use mathlib.Core.Bool.{Bool, true, false, cond}
use mathlib.Core.List.{List, [], ◌∷◌, ◌++◌, append_assoc, append-nil}
use native.Mathlib.Omega.{arith}
use lib.Dec.{eqb, ltb}
use lib.ListN.{length, take, drop}
use lib.Seq.{drop-drop}
use Rattle.text.specs.Output.{Put, most, bytes}
use Rattle.listing.specs.Listing.{then}
use Rattle.tle.specs.Legal.{legal}
use Rattle.roster.specs.Roster.{pair_bytes}
use Rattle.field_lines.specs.Lines.{fields_text}
use Rattle.text.proofs.Pieces.{both, same}
use Rattle.text.proofs.Pieces as pieces
use Rattle.tle.specs.declared.Record.{Record}
use Rattle.changes.specs.Entry.{differences}
use Rattle.changes.specs.Changes.{First, Second, fields, seconds, against, listed}
use Rattle.changes_text.specs.Text.{spelled}
use Rattle.changes_text.proofs.Lengths.{spelled_append}
use Rattle.compare.specs.Walk.{front, Stands, StandsAt, pairs_text, pairs_first, pairs_second, turn_text, first_passed, second_passed, Turned}
use Rattle.std.specs.Prelude.{None, Option, Some}
use Rattle.compare.specs.declared.Turn.{Turn}

abbrev Steps : List ℕ → ℕ → ℕ → List Record → List Record → Type 0
Steps text i j xs bs = spelled (listed xs bs) ≡ text ++ spelled (listed (drop i xs) (drop j bs))

paired : (x y : Bool) (a b : Record) (xs bs : List Record) → ltb b.number a.number ≡ x → eqb b.number a.number ≡ y
    → Steps (pairs_text a b) (pairs_first a b) (pairs_second a b) (a ∷ xs) (b ∷ bs)
unfolding listed against pairs_text pairs_first pairs_second
paired true y a b xs bs e f = rw e (spelled_append (Second b ∷ []) (against a (λ l. listed xs l) bs))
paired false true a b xs bs e f = rw (e, f) (spelled_append (fields a.number (differences a b)) (listed xs bs))
paired false false a b xs bs e f = rw (e, f) (spelled_append (First a ∷ []) (listed xs (b ∷ bs)))

pub step : (xs bs : List Record) → Steps (turn_text (front xs) (front bs)) (first_passed (front xs) (front bs)) (second_passed (front xs) (front bs)) xs bs
unfolding turn_text first_passed second_passed listed seconds against
step [] [] = refl
step [] (b ∷ bs) = spelled_append (Second b ∷ []) (seconds bs)
step (a ∷ xs) [] = spelled_append (First a ∷ []) (listed xs [])
step (a ∷ xs) (b ∷ bs) = paired (ltb b.number a.number) (eqb b.number a.number) a b xs bs refl refl

-- each turn passes one record at least, and no more than one of each roster
abbrev Shrinks : ℕ → ℕ → List Record → List Record → ℕ → Type 0
Shrinks i j xs bs m = (length (drop i xs) + length (drop j bs) ≤ m - 1) × (i ≤ 1) × (j ≤ 1)

shrink_pair : (x y : Bool) (a b : Record) (xs bs : List Record) (m : ℕ) → ltb b.number a.number ≡ x → eqb b.number a.number ≡ y
    → length (a ∷ xs) + length (b ∷ bs) ≤ m → Shrinks (pairs_first a b) (pairs_second a b) (a ∷ xs) (b ∷ bs) m
unfolding pairs_first pairs_second
shrink_pair true y a b xs bs m e f h = rw e (omega arith, omega arith, omega arith)
shrink_pair false true a b xs bs m e f h = rw (e, f) (omega arith, omega arith, omega arith)
shrink_pair false false a b xs bs m e f h = rw (e, f) (omega arith, omega arith, omega arith)

pub shrink : (xs bs : List Record) (m : ℕ) → length xs + length bs ≤ m → Shrinks (first_passed (front xs) (front bs)) (second_passed (front xs) (front bs)) xs bs m
unfolding first_passed second_passed
shrink [] [] m h = (omega arith, omega arith, omega arith)
shrink [] (b ∷ bs) m h = (omega arith, omega arith, omega arith)
shrink (a ∷ xs) [] m h = (omega arith, omega arith, omega arith)
shrink (a ∷ xs) (b ∷ bs) m h = shrink_pair (ltb b.number a.number) (eqb b.number a.number) a b xs bs m refl refl h

-- ── after k turns ──

pub record Going (out : List ℕ) (at : ℕ) (xs bs : List Record) (after : List ℕ) (next i j k : ℕ) : Type 0 where
  pub done : List ℕ
  pub put : Put out at done after next
  pub text : done ++ spelled (listed (drop i xs) (drop j bs)) ≡ spelled (listed xs bs)
  pub left : length (drop i xs) + length (drop j bs) ≤ 128 - k

pub start : {out : List ℕ} {at : ℕ} (xs bs : List Record) → length out ≤ most → at ≤ most → length xs ≤ 64 → length bs ≤ 64 → Going out at xs bs out at 0 0 0
start xs bs h g p q = record { done = []; put = pieces.none h g; text = refl; left = omega arith }

module _ {out : List ℕ} {at : ℕ} (xs bs : List Record) {mid : List ℕ} {now i j k : ℕ} (G : Going out at xs bs mid now i j k) where
  pub more : (x y : Option Record) (after : List ℕ) (t : Turn) → x ≡ front (drop i xs) → y ≡ front (drop j bs)
      → Turned mid now (turn_text x y) (first_passed x y) (second_passed x y) after t
      → (Going out at xs bs after t.next (i + t.first) (j + t.second) (k + 1)) × (t.first ≤ 1) × (t.second ≤ 1)
  more x y after t e f T =
      let fx : t.first ≡ first_passed (front (drop i xs)) (front (drop j bs)) = T.first ∙ ap (λ (s : Option Record). first_passed s y) e ∙ ap (first_passed (front (drop i xs))) f in
      let sx : t.second ≡ second_passed (front (drop i xs)) (front (drop j bs)) = T.second ∙ ap (λ (s : Option Record). second_passed s y) e ∙ ap (second_passed (front (drop i xs))) f in
      let tx : turn_text x y ≡ turn_text (front (drop i xs)) (front (drop j bs)) = ap (λ (s : Option Record). turn_text s y) e ∙ ap (turn_text (front (drop i xs))) f in
      let di : drop t.first (drop i xs) ≡ drop (i + t.first) xs = drop-drop t.first i xs in
      let dj : drop t.second (drop j bs) ≡ drop (j + t.second) bs = drop-drop t.second j bs in
      let S = shrink (drop i xs) (drop j bs) (128 - k) G.left in
      let l : length (drop t.first (drop i xs)) + length (drop t.second (drop j bs)) ≤ 128 - k - 1 = rw (fx, sx) S.0 in
      let q : turn_text x y ++ spelled (listed (drop (i + t.first) xs) (drop (j + t.second) bs)) ≡ spelled (listed (drop i xs) (drop j bs)) =
      rw (← di, ← dj, tx, fx, sx) (sym (step (drop i xs) (drop j bs))) in (
        record {
          done = G.done ++ turn_text x y;
          put = both G.put T.put;
          text = append_assoc G.done (turn_text x y) _ ∙ ap (λ (s : List ℕ). G.done ++ s) q ∙ G.text;
          left = (let n = rw (di, dj) at l in omega (arith, n));
        },
        omega (arith, fx, S.1),
        omega (arith, sx, S.2),
      )

  none_left : (ys ds : List Record) → length ys + length ds ≤ 0 → spelled (listed ys ds) ≡ []
  unfolding spelled listed seconds
  none_left [] [] h = refl
  none_left [] (d ∷ ds) h = absurd (omega arith)
  none_left (y ∷ ys) ds h = absurd (omega arith)

  pub finish : 128 ≤ k → Put out at (spelled (listed xs bs)) mid now
  finish h =
      let e = none_left (drop i xs) (drop j bs) (omega (arith, G.left)) in
      same (sym (append-nil G.done) ∙ ap (λ (s : List ℕ). G.done ++ s) (sym e) ∙ G.text) G.put

-- what comes next of a roster, where a place that was not passed was not read again
after_by : (t : Bool) (i passed : ℕ) (xs : List Record) (x y : Option Record) → eqb passed 0 ≡ t → x ≡ front (drop i xs)
    → y ≡ cond t x (front (drop (i + passed) xs)) → y ≡ front (drop (i + passed) xs)
after_by true i passed xs x y e h f =
    let n : i + passed ≡ i = omega (arith, eqb-true passed 0 e) in
    f ∙ h ∙ ap (λ (m : ℕ). front (drop m xs)) (sym n)
after_by false i passed xs x y e h f = f

pub after_turn : (i passed : ℕ) (xs : List Record) (x y : Option Record) → x ≡ front (drop i xs)
    → y ≡ cond (eqb passed 0) x (front (drop (i + passed) xs)) → y ≡ front (drop (i + passed) xs)
after_turn i passed xs x y h f = after_by (eqb passed 0) i passed xs x y refl h f

-- ── what one turn is made of ──

pub turned_at : {out : List ℕ} {at : ℕ} {after : List ℕ} {t : Turn} (x y u v : Option Record) → x ≡ u → y ≡ v
    → Turned out at (turn_text u v) (first_passed u v) (second_passed u v) after t → Turned out at (turn_text x y) (first_passed x y) (second_passed x y) after t
turned_at {out} {at} {after} {t} x y u v e f T =
    subst (λ (s : Option Record). Turned out at (turn_text s y) (first_passed s y) (second_passed s y) after t) (sym e)
    (subst (λ (s : Option Record). Turned out at (turn_text u s) (first_passed u s) (second_passed u s) after t) (sym f) T)

pub stands_at : (b : List ℕ) (i : ℕ) (x y : Option Record) → x ≡ y → StandsAt b i y → StandsAt b i x
stands_at b i x y e l = subst (λ (s : Option Record). StandsAt b i s) (sym e) l

abbrev turn : ℕ → ℕ → ℕ → Turn
turn n i j = record { next = n; first = i; second = j }

abbrev Line : List ℕ → ℕ → List ℕ → ℕ → List ℕ → Record → Type 0
Line out at after n word r = Put out at (then word (pair_bytes r) ++ (10 ∷ [])) after n

-- a line of the bytes in a place is one of the pair that stands there
pub line_of : {out : List ℕ} {at : ℕ} {after : List ℕ} {n : ℕ} (word b : List ℕ) (i : ℕ) (r : Record) → Stands b i r
    → Put out at (then word (take 138 (drop (i * 138) b)) ++ (10 ∷ [])) after n → Line out at after n word r
line_of word b i r S p = same (ap (λ (t : List ℕ). then word t ++ (10 ∷ [])) S.bytes) p

abbrev Pairs : List ℕ → ℕ → List ℕ → Turn → Record → Record → Type 0
Pairs out at after t a b = Turned out at (pairs_text a b) (pairs_first a b) (pairs_second a b) after t

abbrev Turns : List ℕ → ℕ → List ℕ → Turn → Option Record → Option Record → Type 0
Turns out at after t x y = Turned out at (turn_text x y) (first_passed x y) (second_passed x y) after t

module _ {out : List ℕ} {at : ℕ} {after : List ℕ} {n : ℕ} where
  pub only_second : (a b : Record) → b.number < a.number → Line out at after n (bytes "second") b → Pairs out at after (turn n 0 1) a b
  unfolding pairs_text pairs_first pairs_second spelled
  only_second a b h p = rw (lt-ltb b.number a.number h) (record { put = p; first = refl; second = refl })

  pub only_first : (a b : Record) → a.number ≤ b.number → (b.number ≡ a.number → ⊥) → Line out at after n (bytes "first") a → Pairs out at after (turn n 1 0) a b
  unfolding pairs_text pairs_first pairs_second spelled
  only_first a b h g p = rw (le-ltb b.number a.number h, ne_eqb b.number a.number g) (record { put = p; first = refl; second = refl })

  pub in_both : (a b : Record) → b.number ≡ a.number → legal a ≡ true → legal b ≡ true → Put out at (fields_text a b) after n → Pairs out at after (turn n 1 1) a b
  unfolding pairs_text pairs_first pairs_second
  in_both a b e l m q = let p = rw (l, m) at q in rw (le-ltb b.number a.number (omega arith), eq-eqb b.number a.number e) (record { put = p; first = refl; second = refl })

  pub last_first : (a : Record) → Line out at after n (bytes "first") a → Turns out at after (turn n 1 0) (Some a) None
  unfolding turn_text first_passed second_passed spelled
  last_first a p = record { put = p; first = refl; second = refl }

  pub last_second : (b : Record) → Line out at after n (bytes "second") b → Turns out at after (turn n 0 1) None (Some b)
  unfolding turn_text first_passed second_passed spelled
  last_second b p = record { put = p; first = refl; second = refl }

pub two_left : {out : List ℕ} {at : ℕ} {after : List ℕ} {t : Turn} (a b : Record) → Pairs out at after t a b → Turns out at after t (Some a) (Some b)
unfolding turn_text first_passed second_passed
two_left a b T = T

pub no_turn : {out : List ℕ} {at : ℕ} → length out ≤ most → at ≤ most
    → Turned out at (turn_text None None) (first_passed None None) (second_passed None None) out (turn at 0 0)
unfolding turn_text first_passed second_passed
no_turn h g = record { put = pieces.none h g; first = refl; second = refl }
