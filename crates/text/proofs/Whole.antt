-- The state after a whole input holds what is kept of the input's two lines (`whole`).
use Prim.Native.Nat.{ℕ, ◌<◌, ◌≤◌, ◌+◌, min}
use mathlib.Core.Path.{◌≡◌, refl, sym, ◌∙◌}
use mathlib.Core.List.{List, [], ◌∷◌, ◌++◌, append-nil, append_assoc}
use mathlib.Core.Bool.{Bool, true, false, cond}
use native.Mathlib.Omega.{arith}
use native.Mathlib.Numerals.{add-one}
use lib.Dec.{ltb, eqb}
use lib.ListN.{length, take, set, length-append, length-set}
use lib.Seq.{take-suc-set, take_all, take-append-le}
use borrow.Author.Tests.{ltb-true, ltb-false}
use Rattle.text.specs.declared.input.Line.{Line}
use Rattle.text.specs.declared.input.Lines.{Lines}
use Rattle.text.specs.Input.{line_of, rest_of, line1, line2, kept, empty, started, pushed, stepped, fed, held}

-- a line's bytes so far are x
pub record Holds (l : Line) (x : List ℕ) : Type 0 where
  pub long : length l.bytes ≡ 70
  pub count : l.size ≡ min (length x) 70
  pub front : take l.size l.bytes ≡ take 70 x

pub none : Holds empty []
none = record { long = refl; count = refl; front = refl }

push_by : (t : Bool) (l : Line) (x : List ℕ) (b : ℕ) → ltb l.size 70 ≡ t → Holds l x
    → Holds (cond t (record { bytes = set l.bytes l.size b; size = l.size + 1 }) l) (x ++ (b ∷ []))
push_by true l x b e h =
    let s : l.size < 70 = ltb-true l.size 70 e in
    let n : l.size ≡ length x = omega (arith, h.count) in
    let m : length x < 70 = omega arith in
    let w : take (l.size + 1) (set l.bytes l.size b) ≡ x ++ (b ∷ []) =
    rw (add-one, take-suc-set l.bytes l.size b (omega (arith, h.long)), h.front, take_all 70 x (omega arith)) in
    record {
      long = simp length-set h.long;
      count = simp length-append (omega arith);
      front = w ∙ sym (take_all 70 (x ++ (b ∷ [])) (simp length-append (omega arith)));
    }
push_by false l x b e h =
    let s : 70 ≤ l.size = ltb-false l.size 70 e in
    let m : 70 ≤ length x = omega (arith, h.count) in
    record {
      long = h.long;
      count = simp length-append (omega (arith, h.count));
      front = h.front ∙ sym (take-append-le 70 x (b ∷ []) m);
    }

pub push_holds : {l : Line} {x : List ℕ} (b : ℕ) → Holds l x → Holds (pushed l b) (x ++ (b ∷ []))
unfolding pushed
push_holds {l} {x} b h = push_by (ltb l.size 70) l x b refl h

abbrev at : Line → Line → ℕ → Lines
at f g n = record { first = f; second = g; ended = n }

-- past the second newline
feed2 : (f g : Line) (i : List ℕ) → fed (at f g 2) i ≡ at f g 2
unfolding fed stepped
feed2 f g [] = refl
feed2 f g (b ∷ i) = feed2 f g i

record Ends (r : Lines) (x y : List ℕ) : Type 0 where
  one : Holds r.first x
  two : Holds r.second y

-- in the second line
more1 : (t : Bool) (f g : Line) (x y : List ℕ) (b : ℕ) (i : List ℕ) → Holds f x → Holds g y
    → Ends (fed (at f (pushed g b) 1) i) x ((y ++ (b ∷ [])) ++ line_of i)
    → Ends (fed (cond t (at f g 2) (at f (pushed g b) 1)) i) x (y ++ cond t [] (b ∷ line_of i))
more1 true f g x y b i h k e = rw (feed2 f g i, append-nil y) (record { one = h; two = k })
more1 false f g x y b i h k e = rw append_assoc at e

feed1 : (f g : Line) (x y : List ℕ) (i : List ℕ) → Holds f x → Holds g y → Ends (fed (at f g 1) i) x (y ++ line_of i)
unfolding fed stepped line_of
feed1 f g x y [] h k = rw (append-nil y) (record { one = h; two = k })
feed1 f g x y (b ∷ i) h k = more1 (eqb b 10) f g x y b i h k (feed1 f (pushed g b) x (y ++ (b ∷ [])) i h (push_holds b k))

-- in the first
more0 : (t : Bool) (f g : Line) (x : List ℕ) (b : ℕ) (i : List ℕ) → Holds f x → Holds g []
    → Ends (fed (at f g 1) i) x (line_of i)
    → Ends (fed (at (pushed f b) g 0) i) ((x ++ (b ∷ [])) ++ line_of i) (line_of (rest_of i))
    → Ends (fed (cond t (at f g 1) (at (pushed f b) g 0)) i) (x ++ cond t [] (b ∷ line_of i)) (line_of (cond t i (rest_of i)))
more0 true f g x b i h k d e = rw (append-nil x) d
more0 false f g x b i h k d e = rw append_assoc at e

feed0 : (f g : Line) (x : List ℕ) (i : List ℕ) → Holds f x → Holds g [] → Ends (fed (at f g 0) i) (x ++ line_of i) (line_of (rest_of i))
unfolding fed stepped line_of rest_of
feed0 f g x [] h k = rw (append-nil x) (record { one = h; two = k })
feed0 f g x (b ∷ i) h k =
    more0 (eqb b 10) f g x b i h k (feed1 f g x [] i h k) (feed0 (pushed f b) g (x ++ (b ∷ [])) i (push_holds b h) k)

-- the sizes too, so that a line of 70 bytes or more is told from a shorter one
pub record Both (r : Lines) (input : List ℕ) : Type 0 where
  pub first : held r.first ≡ kept (line1 input)
  pub second : held r.second ≡ kept (line2 input)
  pub room1 : length r.first.bytes ≡ 70
  pub room2 : length r.second.bytes ≡ 70
  pub size1 : r.first.size ≤ 70
  pub size2 : r.second.size ≤ 70

pub whole : (input : List ℕ) → Both (fed started input) input
whole input =
    let e = feed0 empty empty [] input none none in
    record {
      first = e.one.front;
      second = e.two.front;
      room1 = e.one.long;
      room2 = e.two.long;
      size1 = omega (arith, e.one.count);
      size2 = omega (arith, e.two.count);
    }
