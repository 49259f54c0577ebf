-- One request more of those that have room, and the end of the list.
use mathlib.Core.Path.{◌≡◌, refl, sym, ap, ◌∙◌}
use mathlib.Core.List.{List, [], ◌∷◌, ◌++◌}
use Prim.Native.Nat.{ℕ, zero, suc, ◌+◌, ◌-◌, ◌/◌, ◌≤◌, ◌<◌}
use native.Mathlib.Numerals.{add-one}
use native.Mathlib.Omega.{arith}
use lib.ListN.{length, take, drop, get_or, take-append-drop}
use lib.Seq.{drop-cons, drop-length, take-suc, take-length}
use lib.Dec.{eqb, leb, ltb}
use mathlib.Core.Bool.{Bool, true, false, ◌&&◌}
use borrow.Author.Tests.{le-leb, lt-leb, lt-ltb, ltb-true, eq-eqb, eqb-true}
use Rattle.script_room.specs.Room.{taken, needed, roomy, room_for, due}

pub taken_zero : (n : ℕ) → n ≡ 0 → 1 ≡ taken n
unfolding taken
taken_zero n h = sym (ap taken h)

pub taken_one : (n : ℕ) → n ≡ 1 → 0 ≡ taken n
unfolding taken
taken_one n h = sym (ap taken h)

pub taken_more : (n : ℕ) → (n ≡ 0 → ⊥) → (n ≡ 1 → ⊥) → n - 2 ≡ taken n
unfolding taken
taken_more zero h k = absurd (h refl)
  where
    absurd : {B : Type 0} → ⊥ → B
    absurd = elim [ ]
taken_more (suc zero) h k = absurd (k refl)
  where
    absurd : {B : Type 0} → ⊥ → B
    absurd = elim [ ]
taken_more (suc (suc n)) h k = omega arith

-- ── the times that requests take ──

pub needed_snoc : (xs : List ℕ) (n : ℕ) → needed (xs ++ (n ∷ [])) ≡ needed xs + taken n
unfolding needed
needed_snoc [] n = omega arith
needed_snoc (x ∷ xs) n = omega (arith, needed_snoc xs n)

needed_append : (xs ys : List ℕ) → needed (xs ++ ys) ≡ needed xs + needed ys
unfolding needed
needed_append [] ys = omega arith
needed_append (x ∷ xs) ys = omega (arith, needed_append xs ys)

needed_split : (l : List ℕ) (i : ℕ) → needed l ≡ needed (take i l) + needed (drop i l)
needed_split l i = ap needed (sym (take-append-drop i l)) ∙ needed_append (take i l) (drop i l)

needed_next : (l : List ℕ) (i d : ℕ) → i < length l → needed (take (i + 1) l) ≡ needed (take i l) + taken (get_or l i d)
needed_next l i d h = ap (λ k. needed (take k l)) (add-one i) ∙ ap needed (take-suc l i d h) ∙ needed_snoc (take i l) (get_or l i d)

pub fits_none : (l : List ℕ) (room : ℕ) → needed (take 0 l) + room ≡ room
unfolding needed
fits_none l room = omega arith

pub fits_more : (l : List ℕ) (room left i d n : ℕ) → needed (take i l) + left ≡ room → i < length l → n ≡ taken (get_or l i d) → n ≤ left → needed (take (i + 1) l) + (left - n) ≡ room
fits_more l room left i d n e h hn hl = omega (arith, needed_next l i d h)

pub fits_not : (l : List ℕ) (room left i d n : ℕ) → needed (take i l) + left ≡ room → i < length l → n ≡ taken (get_or l i d) → left < n → false ≡ leb (needed l) room
fits_not l room left i d n e h hn hl = sym (lt-leb (needed l) room (omega (arith, needed_next l i d h, needed_split l (i + 1))))

pub fits_all : (l : List ℕ) (room left i : ℕ) → needed (take i l) + left ≡ room → i ≤ length l → length l ≤ i → true ≡ leb (needed l) room
fits_all l room left i e h k =
    let z : i ≡ length l = omega arith in
    let w : take i l ≡ l = ap (λ j. take j l) z ∙ take-length l in
    sym (le-leb (needed l) room (omega (arith, ap needed w)))

-- ── whether all have room ──

pub short_1 : (ns : List ℕ) (t a b c d : ℕ) → leb (needed ns) t ≡ false → false ≡ room_for ns t a b c d
unfolding room_for
short_1 ns t a b c d e = rw e

pub short_2 : (ns : List ℕ) (t a b c d : ℕ) → leb (needed ns) t ≡ true → roomy ns a ≡ false → false ≡ room_for ns t a b c d
unfolding room_for
short_2 ns t a b c d e1 e = rw (e1, e)

pub short_3 : (ns : List ℕ) (t a b c d : ℕ) → leb (needed ns) t ≡ true → roomy ns a ≡ true → roomy ns (b / 6) ≡ false → false ≡ room_for ns t a b c d
unfolding room_for
short_3 ns t a b c d e1 e2 e = rw (e1, e2, e)

pub short_4 : (ns : List ℕ) (t a b c d : ℕ) → leb (needed ns) t ≡ true → roomy ns a ≡ true → roomy ns (b / 6) ≡ true → roomy ns c ≡ false → false ≡ room_for ns t a b c d
unfolding room_for
short_4 ns t a b c d e1 e2 e3 e = rw (e1, e2, e3, e)

pub short_5 : (ns : List ℕ) (t a b c d : ℕ) → leb (needed ns) t ≡ true → roomy ns a ≡ true → roomy ns (b / 6) ≡ true → roomy ns c ≡ true → leb (length ns) d ≡ room_for ns t a b c d
unfolding room_for
short_5 ns t a b c d e1 e2 e3 e4 = rw (e1, e2, e3, e4)

-- ── whether the single requests have room ──

and_left : (p q : Bool) → p && q ≡ true → p ≡ true
and_left true q h = refl
and_left false q h = h

and_right : (p q : Bool) → p && q ≡ true → q ≡ true
and_right true q h = h
and_right false q h = let z : ◌≡◌ {A = ℕ} 0 1 = cc in absurd (omega arith)

-- a request that is next: one with no room left, or any with room for what is due
pub roomy_not : (n : ℕ) (ns : List ℕ) (room : ℕ) → n ≡ 0 → room ≡ 0 → roomy (n ∷ ns) room ≡ false
unfolding roomy
roomy_not n ns room e h = rw (e, h)

roomy_next : (n : ℕ) (ns : List ℕ) (room : ℕ) → (n ≡ 0 → room ≡ 0 → ⊥) → roomy (n ∷ ns) room ≡ roomy ns (room - taken n)
unfolding roomy taken
roomy_next zero ns zero h = absurd (h refl refl)
roomy_next zero ns (suc room) h = rw (lt-ltb 0 (suc room) (omega arith))
roomy_next (suc n) ns room h = refl

not_both : (n left : ℕ) → eqb n 0 && eqb left 0 ≡ false → n ≡ 0 → left ≡ 0 → ⊥
not_both n left e p q = let z : true && true ≡ false = rw (eq-eqb n 0 p, eq-eqb left 0 q) at e in let x : ◌≡◌ {A = ℕ} 0 1 = cc in omega arith

pub roomy_step : (ns : List ℕ) (i d room left m : ℕ) → i < length ns → roomy ns room ≡ roomy (drop i ns) left → m ≡ taken (get_or ns i d) → eqb (get_or ns i d) 0 && eqb left 0 ≡ false
    → roomy ns room ≡ roomy (drop (i + 1) ns) (left - m)
roomy_step ns i d room left m h e hm n =
    e ∙ ap (λ l. roomy l left) (drop-cons ns i d h) ∙ roomy_next (get_or ns i d) (drop (suc i) ns) left (not_both (get_or ns i d) left n)
    ∙ ap (λ k. roomy (drop (suc i) ns) (left - k)) (sym hm) ∙ ap (λ k. roomy (drop k ns) (left - m)) (sym (add-one i))

pub roomy_fails : (ns : List ℕ) (i d room left : ℕ) → i < length ns → roomy ns room ≡ roomy (drop i ns) left → eqb (get_or ns i d) 0 && eqb left 0 ≡ true → false ≡ roomy ns room
roomy_fails ns i d room left h e t =
    let n = eqb-true (get_or ns i d) 0 (and_left (eqb (get_or ns i d) 0) (eqb left 0) t) in
    let z = eqb-true left 0 (and_right (eqb (get_or ns i d) 0) (eqb left 0) t) in
    sym (e ∙ ap (λ l. roomy l left) (drop-cons ns i d h) ∙ roomy_not (get_or ns i d) (drop (suc i) ns) left n z)

pub roomy_all : (ns : List ℕ) (i room left : ℕ) → i ≤ length ns → length ns ≤ i → roomy ns room ≡ roomy (drop i ns) left → true ≡ roomy ns room
unfolding roomy
roomy_all ns i room left h k e =
    let z : i ≡ length ns = omega arith in
    sym (e ∙ ap (λ l. roomy l left) (ap (λ j. drop j ns) z ∙ drop-length ns))

-- where what is left is roomy, the next request has room for what is due, and what is left after it is roomy
pub due_room : (n : ℕ) (ns : List ℕ) (room : ℕ) → roomy (n ∷ ns) room ≡ true → (due n ≤ room) × (roomy ns (room - taken n) ≡ true)
unfolding roomy taken
due_room zero ns room h = (ltb-true 0 room (and_left (ltb 0 room) (roomy ns (room - 1)) h), and_right (ltb 0 room) (roomy ns (room - 1)) h)
due_room (suc n) ns room h = (omega arith, h)

pub next_roomy : (ns : List ℕ) (j z l at m : ℕ) → j < length ns → m ≡ taken (get_or ns j z) → roomy (drop j ns) (l - at) ≡ true
    → (due (get_or ns j z) ≤ l - at) × (roomy (drop (j + 1) ns) (l - (at + m)) ≡ true)
next_roomy ns j z l at m h hm e =
    let r = due_room (get_or ns j z) (drop (suc j) ns) (l - at) (sym (ap (λ k. roomy k (l - at)) (drop-cons ns j z h)) ∙ e) in
    let w : l - (at + m) ≡ l - at - taken (get_or ns j z) = omega (arith, hm) in
    (r.0, ap (λ k. roomy (drop k ns) (l - (at + m))) (add-one j) ∙ ap (roomy (drop (suc j) ns)) w ∙ r.1)

pub due_zero : (n : ℕ) → n ≡ 0 → due n ≡ 1
due_zero n h = ap due h
