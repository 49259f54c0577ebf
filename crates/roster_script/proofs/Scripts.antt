-- A script's calls, one after the other, and what is left of it.
use Prim.Native.Nat.{ℕ, zero, suc, ◌+◌, ◌-◌, ◌*◌, ◌/◌, ◌<◌, ◌≤◌}
use mathlib.Core.Path.{◌≡◌, refl, ap, sym, ◌∙◌}
use mathlib.Core.Bool.{Bool, true, false}
use mathlib.Core.List.{List, [], ◌∷◌, ◌++◌}
use native.Mathlib.Numerals.{add-one}
use native.Mathlib.Omega.{arith}
use borrow.Author.Tests.{lt-ltb, le-ltb, le-leb, lt-leb, ltb-true, ltb-false, leb-true, leb-false}
use lib.Dec.{leb, ltb}
use lib.ListN.{length, take, drop, set, get_or, length-drop, length-set, take-append-drop}
use lib.Seq.{drop-cons, drop-drop, take-suc-set, drop-set-lt, append_snoc}
use Rattle.roster_script.specs.Total.{Call, Lodge, Withdraw, Fill, Lent, lent, answer_to, after, answers_to, after_all}
use Rattle.roster_script.specs.Script.{call_of, taken, script, needed}

-- ── one call ──

pub taken_lodge : (kind a b : ℕ) → kind ≡ 0 → taken kind a b ≡ a + b
taken_lodge zero a b h = refl
taken_lodge (suc kind) a b h = absurd (omega arith)

pub taken_withdraw : (kind a b : ℕ) → (kind ≡ 0 → ⊥) → taken kind a b ≡ 0
taken_withdraw zero a b h = absurd (h refl)
taken_withdraw (suc kind) a b h = refl

-- the lines as they are lent, after the first `at` bytes of the text
pub call_lodge : (kind a b at : ℕ) (text : List ℕ) → kind ≡ 0
    → Lodge (take (at + a - at) (drop at text)) (take (at + a + b - (at + a)) (drop (at + a) text)) ≡ call_of kind a b (drop at text)
call_lodge zero a b at text h =
    let e : at + a - at ≡ a = omega arith in
    let f : at + a + b - (at + a) ≡ b = omega arith in
    rw (e, f, drop-drop a at text)
call_lodge (suc kind) a b at text h = absurd (omega arith)

pub call_withdraw : (kind a b : ℕ) (text : List ℕ) → kind ≡ 1 → Withdraw a ≡ call_of kind a b text
call_withdraw zero a b text h = absurd (omega arith)
call_withdraw (suc zero) a b text h = refl
call_withdraw (suc (suc kind)) a b text h = absurd (omega arith)

pub call_fill : (kind a b : ℕ) (text : List ℕ) → (kind ≡ 1 → ⊥) → (kind ≡ 0 → ⊥) → Fill ≡ call_of kind a b text
call_fill zero a b text h g = absurd (g refl)
call_fill (suc zero) a b text h g = absurd (h refl)
call_fill (suc (suc kind)) a b text h g = refl

-- a call answered, as the contract of `step` says it
abbrev pub Called : Lent → Call → ℕ → Lent → Type 0
Called m c r m' = (r ≡ answer_to m c) × (m' ≡ after m c)

pub called : (m : Lent) (c d : Call) (r : ℕ) (m' : Lent) → c ≡ d → Called m c r m' → Called m d r m'
called m c d r m' e k = (k.0 ∙ ap (answer_to m) e, k.1 ∙ ap (after m) e)

-- a buffer and a row, each as it is
pub lent_as : (b b' row row' : List ℕ) → b ≡ b' → row ≡ row' → lent b row ≡ lent b' row'
lent_as b b' row row' e f = rw (e, f)

-- ── a call's lines and the bytes that are left ──

pub over_none : (left kind a b : ℕ) → (kind ≡ 0 → ⊥) → false ≡ ltb left (taken kind a b)
over_none left kind a b h = sym (ap (ltb left) (taken_withdraw kind a b h) ∙ le-ltb left 0 (omega arith))

pub over_first : (left kind a b : ℕ) → kind ≡ 0 → left < a → true ≡ ltb left (taken kind a b)
over_first left kind a b h g = sym (ap (ltb left) (taken_lodge kind a b h) ∙ lt-ltb left (a + b) (omega arith))

minus : (x : Bool) (left a b : ℕ) → a ≤ left → ltb (left - a) b ≡ x → x ≡ ltb left (a + b)
minus true left a b h e = sym (lt-ltb left (a + b) (omega (arith, ltb-true (left - a) b e)))
minus false left a b h e = sym (le-ltb left (a + b) (omega (arith, ltb-false (left - a) b e)))

pub over_second : (left kind a b : ℕ) → kind ≡ 0 → a ≤ left → ltb (left - a) b ≡ ltb left (taken kind a b)
over_second left kind a b h g = minus (ltb (left - a) b) left a b g refl ∙ sym (ap (ltb left) (taken_lodge kind a b h))

-- ── what is left from the call j on ──

few : (ns text : List ℕ) → length ns < 3 → (script ns text ≡ []) × (needed ns ≡ 0)
unfolding script needed
few [] text h = (refl, refl)
few (k ∷ []) text h = (refl, refl)
few (k ∷ a ∷ []) text h = (refl, refl)
few (k ∷ a ∷ b ∷ ns) text h = absurd (omega arith)

pub none_left : (ns : List ℕ) (j : ℕ) (text : List ℕ) → length ns / 3 ≤ j → (script (drop (3 * j) ns) text ≡ []) × (needed (drop (3 * j) ns) ≡ 0)
none_left ns j text h = few (drop (3 * j) ns) text (rw (length-drop (3 * j) ns) (omega arith))

module _ (ns : List ℕ) (j : ℕ) (more : j < length ns / 3) where
  abbrev kind : ℕ
  kind = get_or ns (3 * j) 0

  abbrev first : ℕ
  first = get_or ns (3 * j + 1) 0

  abbrev second : ℕ
  second = get_or ns (3 * j + 2) 0

  from : (i : ℕ) → i < length ns → drop i ns ≡ get_or ns i 0 ∷ drop (i + 1) ns
  from i h = rw add-one (drop-cons ns i 0 h)

  split : drop (3 * j) ns ≡ kind ∷ first ∷ second ∷ drop (3 * (j + 1)) ns
  split =
      let e : 3 * j + 1 + 1 ≡ 3 * j + 2 = omega arith in
      let f : 3 * j + 2 + 1 ≡ 3 * (j + 1) = omega arith in
      from (3 * j) (omega arith)
      ∙ ap (λ (t : List ℕ). kind ∷ t) (from (3 * j + 1) (omega arith))
      ∙ ap (λ (i : ℕ). kind ∷ first ∷ drop i ns) e
      ∙ ap (λ (t : List ℕ). kind ∷ first ∷ t) (from (3 * j + 2) (omega arith))
      ∙ ap (λ (i : ℕ). kind ∷ first ∷ second ∷ drop i ns) f

  pub script_more : (text : List ℕ) → script (drop (3 * j) ns) text ≡ call_of kind first second text ∷ script (drop (3 * (j + 1)) ns) (drop (taken kind first second) text)
  unfolding script
  script_more text = rw split

  pub needed_more : needed (drop (3 * j) ns) ≡ taken kind first second + needed (drop (3 * (j + 1)) ns)
  unfolding needed
  needed_more = rw split

  -- ── whether the text has the lines ──

  pub fits_not : (room left : ℕ) → leb (needed ns) room ≡ leb (needed (drop (3 * j) ns)) left → left < taken kind first second → false ≡ leb (needed ns) room
  fits_not room left so_far h = sym (so_far ∙ lt-leb (needed (drop (3 * j) ns)) left (omega (arith, needed_more)))

  less : (x : Bool) (t n left : ℕ) → t ≤ left → leb n (left - t) ≡ x → leb (t + n) left ≡ x
  less true t n left h e = le-leb (t + n) left (omega (arith, leb-true n (left - t) e))
  less false t n left h e = lt-leb (t + n) left (omega (arith, leb-false n (left - t) e))

  pub fits_more : (room left : ℕ) → leb (needed ns) room ≡ leb (needed (drop (3 * j) ns)) left → taken kind first second ≤ left
      → leb (needed ns) room ≡ leb (needed (drop (3 * (j + 1)) ns)) (left - taken kind first second)
  fits_more room left so_far h =
      so_far ∙ ap (λ (n : ℕ). leb n left) needed_more
      ∙ less (leb (needed (drop (3 * (j + 1)) ns)) (left - taken kind first second)) (taken kind first second) (needed (drop (3 * (j + 1)) ns)) left h refl

pub fits_all : (ns : List ℕ) (j room left : ℕ) → leb (needed ns) room ≡ leb (needed (drop (3 * j) ns)) left → length ns / 3 ≤ j → true ≡ leb (needed ns) room
fits_all ns j room left so_far h = sym (so_far ∙ ap (λ (n : ℕ). leb n left) (none_left ns j [] h).1 ∙ le-leb 0 left (omega arith))

-- ── the calls made so far ──

-- the numbers of answers at the front of their room
abbrev fronted : List ℕ → ℕ → List ℕ → List ℕ
fronted xs n l = xs ++ drop n l

-- the memory m' and the room l' before the call j, whose lines come after the first `at` bytes: what is left to do is the whole
pub record Along (m : Lent) (calls text l : List ℕ) (m' : Lent) (l' : List ℕ) (at j : ℕ) : Type 0 where
  pub index : j ≤ length calls / 3
  pub lines : at + needed (drop (3 * j) calls) ≤ length text
  pub size : length m'.buffer ≡ length m.buffer
  pub width : length m'.row ≡ length m.row
  pub room : length l' ≡ length l
  pub memory : after_all m (script calls text) ≡ after_all m' (script (drop (3 * j) calls) (drop at text))
  pub numbers : fronted (answers_to m (script calls text)) (length (script calls text)) l
      ≡ take j l' ++ fronted (answers_to m' (script (drop (3 * j) calls) (drop at text))) (length (script (drop (3 * j) calls) (drop at text))) (drop j l')

pub along_none : (m : Lent) (calls text l : List ℕ) → needed calls ≤ length text → Along m calls text l m l 0 0
along_none m calls text l h =
    record { index = omega arith; lines = omega arith; size = refl; width = refl; room = refl; memory = refl; numbers = refl }

-- one number more
put_number : (j x n : ℕ) (xs l : List ℕ) → j < length l
    → take j l ++ fronted (x ∷ xs) (suc n) (drop j l) ≡ take (j + 1) (set l j x) ++ fronted xs n (drop (j + 1) (set l j x))
put_number j x n xs l h =
    let e : j + suc n ≡ suc j + n = omega arith in
    rw (add-one, take-suc-set l j x h, drop-set-lt (suc j) l j x (omega arith), drop-drop (suc n) j l, drop-drop n (suc j) l, e)
    (sym (append_snoc (take j l) x (xs ++ drop (suc j + n) l)))

module _ (m : Lent) (calls text l : List ℕ) (m' : Lent) (l' : List ℕ) (at j : ℕ) (A : Along m calls text l m' l' at j) (more : j < length calls / 3) where
  abbrev length_taken : ℕ
  length_taken = taken (kind calls j more) (first calls j more) (second calls j more)

  abbrev call : Call
  call = call_of (kind calls j more) (first calls j more) (second calls j more) (drop at text)

  pub lines_there : at + length_taken ≤ length text
  lines_there = omega (arith, A.lines, needed_more calls j more)

  behind : script (drop (3 * j) calls) (drop at text) ≡ call ∷ script (drop (3 * (j + 1)) calls) (drop (at + length_taken) text)
  behind =
      script_more calls j more (drop at text)
      ∙ ap (λ (t : List ℕ). call ∷ script (drop (3 * (j + 1)) calls) t) (drop-drop length_taken at text)

  pub along_more : (x n : ℕ) (m'' : Lent) → Called m' call x m'' → length m''.buffer ≡ length m'.buffer → length m''.row ≡ length m'.row
      → n ≡ length_taken → j < length l' → Along m calls text l m'' (set l' j x) (at + n) (j + 1)
  along_more x n m'' c z y t h =
      let rest = script (drop (3 * (j + 1)) calls) (drop (at + length_taken) text) in
      rw t (record {
        index = omega arith;
        lines = omega (arith, A.lines, needed_more calls j more);
        size = z ∙ A.size;
        width = y ∙ A.width;
        room = length-set l' j x ∙ A.room;
        memory = A.memory ∙ ap (after_all m') behind ∙ ap (λ (u : Lent). after_all u rest) (sym c.1);
        numbers =
            A.numbers
            ∙ ap (λ (cs : List Call). take j l' ++ fronted (answers_to m' cs) (length cs) (drop j l')) behind
            ∙ ap (λ (a : ℕ). take j l' ++ fronted (a ∷ answers_to (after m' call) rest) (suc (length rest)) (drop j l')) (sym c.0)
            ∙ ap (λ (u : Lent). take j l' ++ fronted (x ∷ answers_to u rest) (suc (length rest)) (drop j l')) (sym c.1)
            ∙ put_number j x (length rest) (answers_to m'' rest) l' h;
      })

pub along_done : (m : Lent) (calls text l : List ℕ) (m' : Lent) (l' : List ℕ) (at j : ℕ) → Along m calls text l m' l' at j → length calls / 3 ≤ j
    → (m' ≡ after_all m (script calls text)) × (l' ≡ fronted (answers_to m (script calls text)) (length (script calls text)) l)
along_done m calls text l m' l' at j A h =
    let e = (none_left calls j (drop at text) h).0 in (
      sym (A.memory ∙ ap (after_all m') e),
      sym (A.numbers
          ∙ ap (λ (cs : List Call). take j l' ++ fronted (answers_to m' cs) (length cs) (drop j l')) e
          ∙ take-append-drop j l'),
    )
