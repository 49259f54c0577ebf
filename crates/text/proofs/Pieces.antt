-- Pieces of text put one after the other. `both` composes two; every text is a chain of them.
use Prim.Native.Nat.{ℕ, suc, ◌+◌, ◌-◌, ◌<◌, ◌≤◌, min}
use mathlib.Core.Path.{◌≡◌, refl, sym, ap, ◌∙◌, subst}
use mathlib.Core.List.{List, [], ◌∷◌, ◌++◌, append_assoc}
use mathlib.Core.Bool.{Bool, true, false}
use native.Mathlib.Omega.{arith}
use native.Mathlib.Nat.{zero-add, add-zero, add-suc, suc-add, min-eq_left, min-eq_right}
use lib.Dec.{leb}
use lib.ListN.{length, drop, take, set, length-append}
use borrow.Rule.Slice.PartMut.{put_mid}
use Rattle.std.proofs.lemmas.List.{length-take-le, take-append-drop, length-drop, drop-drop}
use lib.Seq.{sets, length-sets, set_out, sets-eq}
use borrow.Author.Tests.{leb-true, leb-false, le-leb, lt-leb}
use Rattle.text.specs.Output.{Put, most, fronted}

-- past the end nothing is stored
beyond : (s o : List ℕ) (i : ℕ) → length o ≤ i → sets o i s ≡ o
beyond [] o i h = refl
beyond (b ∷ s) o i h = rw (set_out o i b h) (beyond s o (suc i) (omega arith))

-- a run of stores in two parts
pub sets_more : (s t o : List ℕ) (i : ℕ) → sets (sets o i s) (i + length s) t ≡ sets o i (s ++ t)
sets_more [] t o i = rw (add-zero i)
sets_more (b ∷ s) t o i = rw (add-suc i (length s), ← suc-add i (length s)) (sets_more s t (set o i b) (suc i))

-- a position that counting stopped at stores as the true one does: both lie past the end
stopped_by : (s o : List ℕ) (i : ℕ) (b : Bool) → leb i most ≡ b → length o ≤ most → sets o (min i most) s ≡ sets o i s
stopped_by s o i true e h = rw (min-eq_left {n = i} {m = most} (leb-true i most e))
stopped_by s o i false e h =
    let g : most < i = leb-false i most e in
    rw (min-eq_right {n = most} {m = i} (omega arith)) (beyond s o most h ∙ sym (beyond s o i (omega arith)))

stopped : (s o : List ℕ) (i : ℕ) → length o ≤ most → sets o (min i most) s ≡ sets o i s
stopped s o i h = stopped_by s o i (leb i most) refl h

pub none : {o : List ℕ} {a : ℕ} → length o ≤ most → a ≤ most → Put o a [] o a
none h g = record { room = h; counted = omega arith; stored = refl }

pub both : {o o' o'' s t : List ℕ} {a b d : ℕ} → Put o a s o' b → Put o' b t o'' d → Put o a (s ++ t) o'' d
both {o} {o'} {o''} {s} {t} {a} {b} {d} p q = record {
  room = p.room;
  counted = simp length-append (omega (arith, p.counted, q.counted));
  stored = q.stored ∙ rw (p.stored, p.counted)
      (stopped t (sets o a s) (a + length s) (rw length-sets p.room) ∙ sets_more s t o a);
}

-- what lies past the end of a text, or of the buffer, is not stored
past_either : (t o : List ℕ) (i : ℕ) (b : Bool) → leb (length o) i ≡ b → (i < length o → length t ≤ 0) → sets o i t ≡ o
past_either t o i true e h = beyond t o i (leb-true (length o) i e)
past_either [] o i false e h = refl
past_either (b ∷ t) o i false e h = let g = leb-false (length o) i e in absurd (omega (arith, h g))

-- a text copied over what the buffer has of its places
copied_at : (s o : List ℕ) (a n : ℕ) → a ≤ length o → n ≡ min (length s) (length o - a) → take a o ++ (take n s ++ drop n (drop a o)) ≡ sets o a s
copied_at s o a n h e =
    let l : length (take n s) ≡ n = length-take-le n s (omega arith) in
    let r : length (sets o a (take n s)) ≡ length o = length-sets o a (take n s) in
    let past : sets (sets o a (take n s)) (a + length (take n s)) (drop n s) ≡ sets o a (take n s) =
    past_either (drop n s) (sets o a (take n s)) (a + length (take n s)) _ refl (λ g. omega (arith, length-drop n s))
    in
    let whole : sets o a (take n s ++ drop n s) ≡ sets o a (take n s) = sym (sets_more (take n s) (drop n s) o a) ∙ past in
    let k : a + length (take n s) ≡ a + n = ap (λ m. a + m) l in
    let split : take n s ++ drop n s ≡ s = take-append-drop n s in
    let front : sets o a (take n s) ≡ take a o ++ take n s ++ drop (a + n) o = rw (← k) (sets-eq (take n s) o a (omega arith)) in
    rw (drop-drop, ← append_assoc) (sym front ∙ sym whole ∙ ap (λ (t : List ℕ). sets o a t) split)

copied_by : (s o : List ℕ) (a f n : ℕ) (b : Bool) → leb a (length o) ≡ b → f ≡ min a (length o) → n ≡ min (length s) (length o - f) → take f o ++ (take n s ++ drop n (drop f o)) ≡ sets o a s
copied_by s o a f n true e ef en =
    let g = leb-true a (length o) e in
    let h : f ≡ a = omega arith in
    rw h (copied_at s o a n g (omega arith))
copied_by s o a f n false e ef en =
    let g = leb-false a (length o) e in
    let h : f ≡ length o = omega arith in
    let z : n ≡ 0 = omega arith in
    rw (z, take-append-drop) (sym (beyond s o a (omega arith)))

pub copied : (s o : List ℕ) (a f n : ℕ) → f ≡ min a (length o) → n ≡ min (length s) (length o - f) → put_mid f (f + n - f) o (take n s) ≡ sets o a s
copied s o a f n ef en = let k : f + n - f ≡ n = omega arith in rw k (copied_by s o a f n (leb a (length o)) refl ef en)

-- the same text in other words
pub same : {o o' s t : List ℕ} {a b : ℕ} → s ≡ t → Put o a s o' b → Put o a t o' b
same {o} {o'} {s} {t} {a} {b} e p = subst (λ (x : List ℕ). Put o a x o' b) e p

-- the front of a text, as the code's `&s[0..n]` has it
pub front : {o o' t : List ℕ} {a b : ℕ} (n : ℕ) (s : List ℕ) → take n s ≡ t → Put o a (take (n - 0) s) o' b → Put o a t o' b
front n s e p = let z : n - 0 ≡ n = omega arith in same (ap (λ k. take k s) z ∙ e) p

pub length_put : {o o' s : List ℕ} {a b : ℕ} → Put o a s o' b → length o' ≡ length o
length_put {o} {o'} {s} {a} p = ap length p.stored ∙ length-sets o a s

-- A text put at the front of any buffer tells its length; put at the front of one that has room, it is there whole.
module _ {o o' text : List ℕ} {n : ℕ} (p : Put o 0 text o' n) (h : length text < most) where
  pub measured : n ≡ length text
  measured = p.counted ∙ rw (zero-add (length text)) (min-eq_left {n = length text} {m = most} (omega arith))

  fits : length text ≤ length o → o' ≡ text ++ drop (length text) o
  fits g = p.stored ∙ sets-eq text o 0 (omega arith) ∙ rw (zero-add (length text))

  pub has_room : length text ≤ length o → o' ≡ fronted text o
  unfolding fronted
  has_room g = let e : leb (length text) (length o) ≡ true = le-leb (length text) (length o) g in simp e (fits g)

pub too_short : (text o : List ℕ) → length o < length text → o ≡ fronted text o
unfolding fronted
too_short text o h = let e : leb (length text) (length o) ≡ false = lt-leb (length text) (length o) h in simp e
