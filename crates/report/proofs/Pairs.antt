-- A whole pair, fed to a state in which none has begun, is that pair counted (`whole_pair`); and the turns of `line_end` and `feed_pair`.
use Prim.Native.Nat.{ℕ, suc, ◌<◌, ◌≤◌, ◌+◌, ◌-◌}
use mathlib.Core.Path.{◌≡◌, refl, sym, ap, ◌∙◌}
use mathlib.Core.List.{List, [], ◌∷◌, ◌++◌, append-nil, append_assoc}
use mathlib.Core.Bool.{Bool, true, false, cond}
use native.Mathlib.Omega.{arith}
use native.Mathlib.Numerals.{add-one}
use lib.Dec.{eqb}
use lib.ListN.{length, take, drop, get_or, length-drop, drop_of_length-le}
use lib.Seq.{drop-cons, drop-drop}
use borrow.Author.Tests.{lt-ltb, le-ltb, eq-eqb, ne_eqb}
use Rattle.text.specs.Input as text
use Rattle.text.specs.Input.{line_of}
use Rattle.text.specs.declared.input.Line.{Line}
use Rattle.text.specs.declared.input.Lines.{Lines}
use Rattle.text.proofs.Whole.{Holds, none, push_holds}
use Rattle.report.specs.declared.Count.{Count}
use Rattle.report.specs.declared.State.{State}
use Rattle.report.specs.State.{fresh, with_pair, with_lines, settled, fed}
use Rattle.report.proofs.Feeding.{turn}
use Rattle.report.proofs.Whole.{at, kept_pair, turn0, turn1, fed_more}

-- ── where a line ends ──

pub line_turn : (p : List ℕ) (i : ℕ) → i < length p → (get_or p i 0 ≡ 10 → ⊥) → i + 1 + length (line_of (drop (i + 1) p)) ≡ i + length (line_of (drop i p))
unfolding line_of
line_turn p i h e = rw (drop-cons p i 0 h, ne_eqb (get_or p i 0) 10 e, add-one) (omega arith)

pub line_here : (p : List ℕ) (i : ℕ) → i < length p → get_or p i 0 ≡ 10 → i ≡ i + length (line_of (drop i p))
unfolding line_of
line_here p i h e = rw (drop-cons p i 0 h, eq-eqb (get_or p i 0) 10 e) (omega arith)

pub line_over_lem : (p : List ℕ) (i : ℕ) → length p ≤ i → i ≡ i + length (line_of (drop i p))
unfolding line_of
line_over_lem p i h = rw (drop_of_length-le p h) (omega arith)

took_by : (t : Bool) (b : ℕ) (q : List ℕ) → take (length (line_of q)) q ≡ line_of q → take (length (cond t [] (b ∷ line_of q))) (b ∷ q) ≡ cond t [] (b ∷ line_of q)
took_by true b q e = refl
took_by false b q e = ap (λ k. b ∷ k) e

took : (q : List ℕ) → take (length (line_of q)) q ≡ line_of q
unfolding line_of
took [] = refl
took (b ∷ q) = took_by (eqb b 10) b q (took q)

-- ── the first line, and the second ──

record First (c : Count) (f g : Line) (x line rest q : List ℕ) : Type 0 where
  held : Line
  holds : Holds held (x ++ line)
  is : fed (at f g 0 c) q ≡ fed (at held g 1 c) rest

first_by : (t : Bool) (b : ℕ) (q : List ℕ) (c : Count) (f g : Line) (x : List ℕ) → eqb b 10 ≡ t → Holds f x
    → length (cond t [] (b ∷ line_of q)) < suc (length q)
    → (Holds (text.pushed f b) (x ++ (b ∷ [])) → length (line_of q) < length q
    → First c (text.pushed f b) g (x ++ (b ∷ [])) (line_of q) (drop (suc (length (line_of q))) q) q)
    → First c f g x (cond t [] (b ∷ line_of q)) (drop (suc (length (cond t [] (b ∷ line_of q)))) (b ∷ q)) (b ∷ q)
first_by true b q c f g x e h l r = record { held = f; holds = rw (append-nil x) h; is = fed_more _ _ b q (turn0 true c f g b e) }
first_by false b q c f g x e h l r =
    let s = r (push_holds b h) (omega arith) in
    record { held = s.held; holds = rw append_assoc at s.holds; is = fed_more _ _ b q (turn0 false c f g b e) ∙ s.is }

first : (q : List ℕ) (c : Count) (f g : Line) (x : List ℕ) → Holds f x → length (line_of q) < length q
    → First c f g x (line_of q) (drop (suc (length (line_of q))) q) q
unfolding line_of
first [] c f g x h l = absurd (omega arith)
first (b ∷ q) c f g x h l = first_by (eqb b 10) b q c f g x refl h l (λ k m. first q c (text.pushed f b) g (x ++ (b ∷ [])) k m)

abbrev Second : Count → Line → Line → List ℕ → List ℕ → List ℕ → List ℕ → Type 0
Second c f g x y line q = fed (at f g 1 c) q ≡ fed (fresh (with_pair c x (y ++ line))) (drop (suc (length line)) q)

second_by : (t : Bool) (b : ℕ) (q : List ℕ) (c : Count) (f g : Line) (x y : List ℕ) → eqb b 10 ≡ t → Holds f x → Holds g y
    → length (cond t [] (b ∷ line_of q)) < suc (length q)
    → (Holds (text.pushed g b) (y ++ (b ∷ [])) → length (line_of q) < length q → Second c f (text.pushed g b) x (y ++ (b ∷ [])) (line_of q) q)
    → Second c f g x y (cond t [] (b ∷ line_of q)) (b ∷ q)
second_by true b q c f g x y e h k l r =
    fed_more _ _ b q (turn1 true c f g b e) ∙ rw (append-nil y) (ap (λ d. fed (fresh d) q) (kept_pair c f g x y h k))
second_by false b q c f g x y e h k l r = fed_more _ _ b q (turn1 false c f g b e) ∙ rw append_assoc at (r (push_holds b k) (omega arith))

second : (q : List ℕ) (c : Count) (f g : Line) (x y : List ℕ) → Holds f x → Holds g y → length (line_of q) < length q → Second c f g x y (line_of q) q
unfolding line_of
second [] c f g x y h k l = absurd (omega arith)
second (b ∷ q) c f g x y h k l = second_by (eqb b 10) b q c f g x y refl h k l (λ m n. second q c f (text.pushed g b) x (y ++ (b ∷ [])) h m n)

-- ── a whole pair ──

both : (c : Count) (q r : List ℕ) → length (line_of q) < length q → drop (suc (length (line_of q))) q ≡ r → length (line_of r) < length r
    → fed (fresh c) q ≡ fed (fresh (with_pair c (line_of q) (line_of r))) (drop (suc (length (line_of r))) r)
both c q r l e m =
    let f = first q c text.empty text.empty [] none l in
    f.is ∙ ap (fed (at f.held text.empty 1 c)) e ∙ second r c f.held text.empty (line_of q) [] f.holds none m

part : (p : List ℕ) (i a : ℕ) → a ≡ i + length (line_of (drop i p)) → take (a - i) (drop i p) ≡ line_of (drop i p)
part p i a e = let n : a - i ≡ length (line_of (drop i p)) = omega arith in rw n (took (drop i p))

past : (p : List ℕ) (i a : ℕ) → a ≡ i + length (line_of (drop i p)) → drop (suc (length (line_of (drop i p)))) (drop i p) ≡ drop (a + 1) p
past p i a e =
    let n : i + suc (length (line_of (drop i p))) ≡ a + 1 = omega arith in
    drop-drop (suc (length (line_of (drop i p)))) i p ∙ ap (λ k. drop k p) n

inside : (p : List ℕ) (i a : ℕ) → a ≡ i + length (line_of (drop i p)) → a < length p → length (line_of (drop i p)) < length (drop i p)
inside p i a e h = rw (length-drop i p) (omega arith)

pub whole_pair : (c d : Count) (p : List ℕ) (i a b : ℕ) → a ≡ i + length (line_of (drop i p)) → a < length p
    → b ≡ a + 1 + length (line_of (drop (a + 1) p)) → b < length p
    → d ≡ with_pair c (take (a - i) (drop i p)) (take (b - (a + 1)) (drop (a + 1) p))
    → fed (fresh d) (drop (b + 1) p) ≡ fed (fresh c) (drop i p)
whole_pair c d p i a b e h g k w =
    let m : d ≡ with_pair c (line_of (drop i p)) (line_of (drop (a + 1) p)) = rw (part p i a e, part p (a + 1) b g) at w in
    ap (λ z. fed (fresh z) (drop (b + 1) p)) m
    ∙ ap (fed (fresh (with_pair c (line_of (drop i p)) (line_of (drop (a + 1) p))))) (sym (past p (a + 1) b g))
    ∙ sym (both c (drop i p) (drop (a + 1) p) (inside p i a e h) (past p i a e) (inside p (a + 1) b g k))

-- ── a byte of the pair that has begun ──

abbrev state : Lines → Count → State
state l c = record { lines = l; count = c }

pub byte_in : (l r : Lines) (c : Count) (p : List ℕ) (i : ℕ) → i < length p → r ≡ text.fed l (take (i + 1 - i) (drop i p)) → r.ended < 2
    → fed (state r c) (drop (i + 1) p) ≡ fed (state l c) (drop i p)
unfolding settled
byte_in l r c p i h e n = sym (turn (state l c) (state r c) p i h (rw (← e, lt-ltb r.ended 2 n)))

pub byte_ends : (l r : Lines) (c : Count) (p : List ℕ) (i : ℕ) → i < length p → r ≡ text.fed l (take (i + 1 - i) (drop i p)) → 2 ≤ r.ended
    → fed (fresh (with_lines c r.first r.second)) (drop (i + 1) p) ≡ fed (state l c) (drop i p)
unfolding settled
byte_ends l r c p i h e n = sym (turn (state l c) (fresh (with_lines c r.first r.second)) p i h (rw (← e, le-ltb r.ended 2 n)))
