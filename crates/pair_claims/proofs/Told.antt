-- What is told of from a state on: the line 1 that waits, and every line after those that were counted.
use Prim.Native.Nat.{ℕ, zero, suc, ◌+◌, ◌<◌, ◌≤◌, min}
use mathlib.Core.Path.{◌≡◌, refl, sym, ap, ◌∙◌}
use mathlib.Core.List.{List, [], ◌∷◌, ◌++◌}
use mathlib.Core.Bool.{Bool, true, false, cond}
use native.Mathlib.Omega.{arith}
use lib.Dec.{eqb, leb, ltb}
use lib.ListN.{length, take}
use borrow.Author.Tests.{eq-eqb, ne_eqb, eqb-true, eqb-false, lt-ltb, le-ltb, ltb-true, ltb-false}
use Rattle.text.specs.Output.{most}
use Rattle.pair_lines.specs.Sort.{sort_of}
use Rattle.pair_lines.specs.declared.Sort.{Sort}
use Rattle.pair_lines.specs.declared.Sort.TheVariants as sort
use Rattle.pair_lines.specs.declared.Remark.TheVariants as remark
use Rattle.pair_steps.specs.declared.Pairs.{Pairs}
use Rattle.pair_steps.specs.declared.Fate.{Fate}
use Rattle.pair_steps.specs.declared.Fate.TheVariants.{Waits, Completes, Blank, Alone}
use Rattle.pair_steps.specs.Fate.{waiting, counted, fate_of, fate_in}
use Rattle.pair_steps.specs.Steps.{started, step_of}
use Rattle.pair_claims.specs.Claims.{Line, waiting_number, told_by, behind, told, times_in, ToldOnce, NoOther}

abbrev one : ℕ → ℕ → ℕ
one k n = cond (eqb k n) 1 0

times_append : (k : ℕ) (a b : List ℕ) → times_in k (a ++ b) ≡ times_in k a + times_in k b
unfolding times_in
times_append k [] b = omega arith
times_append k (x ∷ a) b = let h = times_append k a b in omega (arith, h)

-- ── only where a line 1 waits is a line its line 2 ──

abbrev is_second : Fate → ℕ
is_second Waits = 0
is_second Completes = 1
is_second Blank = 0
is_second (Alone why) = 0

second_of : (w : Bool) (s : Sort) → is_second (fate_of w s) ≡ 1 → w ≡ true
unfolding fate_of
second_of true s e = refl
second_of false sort.Blank e = absurd (omega arith)
second_of false sort.One e = absurd (omega arith)
second_of false sort.Two e = absurd (omega arith)
second_of false sort.Whole e = absurd (omega arith)
second_of false sort.Other e = absurd (omega arith)

second_by : (t w : Bool) (s : Sort) → is_second (cond t (fate_of w s) (Alone remark.TooLong)) ≡ 1 → w ≡ true
second_by true w s e = second_of w s e
second_by false w s e = absurd (omega arith)

second_in : (p : Pairs) (size : ℕ) (room : List ℕ) → is_second (fate_in p size room) ≡ 1 → waiting p ≡ true
unfolding fate_in
second_in p size room e = second_by (leb size (length room)) (waiting p) (sort_of (take size room)) e

-- ── one line ──

held_once : (k : ℕ) (p : Pairs) → waiting p ≡ true → times_in k (waiting_number p) ≡ one k p.held
unfolding waiting_number times_in
held_once k p e = rw e (omega arith)

none_held : (k : ℕ) (p : Pairs) → waiting p ≡ false → times_in k (waiting_number p) ≡ 0
unfolding waiting_number times_in
none_held k p e = rw e

-- what a line tells of and what waits behind it are what waited and the line
balance : (k h : ℕ) (p : Pairs) (fate : Fate) → 0 < p.lines → (is_second fate ≡ 1 → waiting p ≡ true)
    → times_in k (told_by p fate) + times_in k (waiting_number (step_of p fate 0 h 0).pairs) ≡ times_in k (waiting_number p) + one k p.lines
unfolding told_by step_of times_in
balance k h p Waits l w = let e = held_once k (step_of p Waits 0 h 0).pairs (lt-ltb 0 p.lines l) in omega (arith, e)
balance k h p Completes l w =
    let e = held_once k p (w refl) in
    let f = none_held k (step_of p Completes 0 h 0).pairs refl in
    omega (arith, e, f)
balance k h p Blank l w = omega arith
balance k h p (Alone why) l w = omega arith

lines_kept : (h : ℕ) (p : Pairs) (fate : Fate) → (step_of p fate 0 h 0).pairs.lines ≡ p.lines
unfolding step_of
lines_kept h p Waits = refl
lines_kept h p Completes = refl
lines_kept h p Blank = refl
lines_kept h p (Alone why) = refl

counted_held : (k : ℕ) (p : Pairs) → times_in k (waiting_number (counted p)) ≡ times_in k (waiting_number p)
unfolding waiting_number
counted_held k p = refl

-- ── a text ──

-- whether k is one of the n numbers behind a
among : ℕ → ℕ → ℕ → ℕ
among k a zero = 0
among k a (suc n) = one k (a + 1) + among k (a + 1) n

from : (k : ℕ) (ls : List Line) (p : Pairs) → p.lines + length ls < most → times_in k (told p ls) ≡ times_in k (waiting_number p) + among k p.lines (length ls)
unfolding told among
from k [] p h = omega arith
from k (l ∷ ls) p h =
    let q = counted p in
    let fate = fate_in q l.size l.room in
    let n : q.lines ≡ p.lines + 1 = omega arith in
    let b = balance k (min (length (take l.size l.room)) most) q fate (omega arith) (second_in q l.size l.room) in
    let m : (behind q l).lines ≡ p.lines + 1 = lines_kept (min (length (take l.size l.room)) most) q fate ∙ n in
    let r = from k ls (behind q l) (omega arith) in
    let a : among k (behind q l).lines (length ls) ≡ among k (p.lines + 1) (length ls) = ap (λ x. among k x (length ls)) m in
    let o : one k q.lines ≡ one k (p.lines + 1) = ap (one k) n in
    times_append k (told_by q fate) (told (behind q l) ls) ∙ omega (arith, b, r, a, o, counted_held k p)

below : (k a n : ℕ) → k ≤ a → among k a n ≡ 0
unfolding among
below k a zero h = refl
below k a (suc n) h =
    let o : eqb k (a + 1) ≡ false = ne_eqb k (a + 1) (λ e. omega arith) in
    let z = below k (a + 1) n (omega arith) in rw o (omega (arith, z))

above : (k a n : ℕ) → a + n < k → among k a n ≡ 0
unfolding among
above k a zero h = refl
above k a (suc n) h =
    let o : eqb k (a + 1) ≡ false = ne_eqb k (a + 1) (λ e. omega arith) in
    let z = above k (a + 1) n (omega arith) in rw o (omega (arith, z))

within_by : (t : Bool) (k a n : ℕ) → eqb k (a + 1) ≡ t → a < k → k ≤ a + suc n → (a + 1 < k → among k (a + 1) n ≡ 1) → cond t 1 0 + among k (a + 1) n ≡ 1
within_by true k a n e l h g = let z = below k (a + 1) n (omega (arith, eqb-true k (a + 1) e)) in omega (arith, z)
within_by false k a n e l h g = let z = g (omega (arith, eqb-false k (a + 1) e)) in omega (arith, z)

within : (k a n : ℕ) → a < k → k ≤ a + n → among k a n ≡ 1
unfolding among
within k a zero l h = absurd (omega arith)
within k a (suc n) l h = within_by (eqb k (a + 1)) k a n refl l h (λ g. within k (a + 1) n g (omega arith))

none_at_first : (k : ℕ) → times_in k (waiting_number started) ≡ 0
none_at_first k = none_held k started refl

pub told_once : ToldOnce
told_once ls h k l m = from k ls started (omega arith) ∙ let z = none_at_first k in let w = within k 0 (length ls) (omega arith) (omega arith) in omega (arith, z, w)

pub no_other : NoOther
no_other ls h k l = from k ls started (omega arith) ∙ let z = none_at_first k in let w = above k 0 (length ls) (omega arith) in omega (arith, z, w)
