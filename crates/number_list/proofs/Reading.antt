-- The loop of `read_on`: one byte, and the end.
use Prim.Native.Nat.{ℕ, suc, ◌+◌, ◌*◌, ◌-◌, ◌<◌, ◌≤◌}
use mathlib.Core.Path.{◌≡◌, refl, sym, ◌∙◌}
use mathlib.Core.List.{List, [], ◌∷◌}
use mathlib.Core.Bool.{Bool, true, false, cond, ◌&&◌}
use native.Mathlib.Omega.{arith}
use native.Mathlib.Numerals.{add-one}
use native.Mathlib.Nat.{add-suc, suc-add, zero-add}
use lib.Dec.{leb, ltb, eqb}
use lib.ListN.{length, take, drop, get_or, drop_of_length-le}
use lib.Seq.{sets, drop-cons, take_all}
use borrow.Author.Tests.{eq-eqb, ne_eqb, le-leb, lt-leb, leb-true, leb-false}
use Rattle.number_list.specs.declared.Scan.{Scan}
use Rattle.number_list.specs.Numbers.{Found, bad, read_on, numbers_of, faulty, blanked, digited, stepped, stored, count_of, most_number}
use Rattle.std.specs.Prelude.{None, Some}

case : {P : Type 0} (b : Bool) → (b ≡ true → P) → (b ≡ false → P) → P
case true f g = f refl
case false f g = g refl

-- what the bytes to come give
unfoldable pub rest : Scan → List ℕ → Found
rest t bs = cond t.good (read_on t.some t.value bs) bad

-- a byte moves nothing but from what is to come into the row
record Same (t' t : Scan) (out' out : List ℕ) (f' f : Found) : Type 0 where
  good : f'.good ≡ f.good
  row : sets out' t'.count f'.values ≡ sets out t.count f.values
  count : t'.count + length f'.values ≡ t.count + length f.values

byte : (t : Scan) (b : ℕ) (bs : List ℕ) (out : List ℕ) → Same (stepped t b) t (stored t b out) out (rest (stepped t b) bs) (rest t (b ∷ bs))
unfolding rest read_on stepped stored blanked digited faulty
byte t b bs out =
    case t.good
    (λ g. case (eqb b 32)
    (λ e. case t.some
    (λ s. simp (g, e, s) (record {
      good = refl;
      row = rw (add-one t.count);
      count = rw (add-one t.count, suc-add t.count, add-suc t.count);
    }))
    (λ s. simp (g, e, s) (record { good = refl; row = refl; count = refl })))
    (λ e. case (ltb b 48)
    (λ l. simp (g, e, l) (record { good = refl; row = refl; count = refl }))
    (λ l. case (ltb 57 b)
    (λ u. simp (g, e, l, u) (record { good = refl; row = refl; count = refl }))
    (λ u. case (leb (t.value * 10 + (b - 48)) most_number)
    (λ f. simp (g, e, l, u, f) (record { good = refl; row = refl; count = refl }))
    (λ f. simp (g, e, l, u, f) (record { good = refl; row = refl; count = refl }))))))
    (λ g. simp g (record { good = refl; row = case (eqb b 32) (λ e. simp e) (λ e. simp e); count = refl }))

-- what is left to do is what there was to do
pub record Todo (f : Found) (o : List ℕ) (t : Scan) (out : List ℕ) (bs : List ℕ) : Type 0 where
  pub good : (rest t bs).good ≡ f.good
  pub row : sets out t.count (rest t bs).values ≡ sets o 0 f.values
  pub count : t.count + length (rest t bs).values ≡ length f.values

pub begin : (bs : List ℕ) (o : List ℕ) → Todo (read_on false 0 bs) o (record { good = true; some = false; value = 0; count = 0 }) o bs
unfolding rest
begin bs o = record { good = refl; row = refl; count = zero-add _ }

next : {f : Found} {o out : List ℕ} {t : Scan} (b : ℕ) (bs : List ℕ) → Todo f o t out (b ∷ bs) → Todo f o (stepped t b) (stored t b out) bs
next {f} {o} {out} {t} b bs d =
    let s = byte t b bs out in
    record { good = s.good ∙ d.good; row = s.row ∙ d.row; count = s.count ∙ d.count }

-- how many numbers have begun to be read
abbrev pub begun : Scan → ℕ
begun t = t.count + cond t.some 1 0

-- each byte begins at most one number
pub rise : (t : Scan) (b : ℕ) → begun (stepped t b) ≤ begun t + 1
unfolding stepped blanked digited faulty
rise t b =
    case t.good
    (λ g. case (eqb b 32)
    (λ e. case t.some
    (λ s. simp (g, e, s) (omega arith))
    (λ s. simp (g, e, s) (omega arith)))
    (λ e. case (ltb b 48)
    (λ l. simp (g, e, l) (omega arith))
    (λ l. case (ltb 57 b)
    (λ u. simp (g, e, l, u) (omega arith))
    (λ u. case (leb (t.value * 10 + (b - 48)) most_number)
    (λ f. simp (g, e, l, u, f) (omega arith))
    (λ f. simp (g, e, l, u, f) (omega arith))))))
    (λ g. simp g (omega arith))

pub begun_some : (t : Scan) (i : ℕ) → begun t ≤ i → t.some ≡ true → t.count + 1 ≤ i
begun_some t i h e = rw e at h

-- the end: the last number, or a fault
done_by : (f : Found) (o : List ℕ) (t : Scan) (out : List ℕ) → Todo f o t out [] → t.good ≡ true → t.some ≡ true
    → (f.good ≡ true) × (length f.values ≡ t.count + 1) × (stored t 32 out ≡ sets o 0 f.values)
unfolding rest read_on stored
done_by f o t out d g s =
    (sym d.good ∙ simp (g, s), sym d.count ∙ simp (g, s), simp (g, s) (sym (simp (g, s)) ∙ d.row))

pub and_true : (a b : Bool) → (a && b) ≡ true → (a ≡ true) × (b ≡ true)
and_true true true h = (refl, refl)
and_true true false h = (refl, h)
and_true false b h = (h, let z : ◌≡◌ {A = ℕ} 0 1 = cc in absurd (omega arith))

bad_by : (f : Found) (o : List ℕ) (t : Scan) (out : List ℕ) → Todo f o t out [] → (t.good && t.some) ≡ false
    → (f.good ≡ false) × (stored t 32 out ≡ sets o 0 f.values)
unfolding rest read_on stored
bad_by f o t out d h =
    case t.good
    (λ g. case t.some
    (λ s. let q : true ≡ false = rw (g, s) at h in let z : ◌≡◌ {A = ℕ} 0 1 = cc in absurd (omega arith))
    (λ s. (sym d.good ∙ simp (g, s), simp h (sym (simp (g, s)) ∙ d.row))))
    (λ g. (sym d.good ∙ simp g, simp h (sym (simp g) ∙ d.row)))

-- the loop's turn and its end, as the code meets them
module _ (f : Found) (s : List ℕ) (o : List ℕ) (t : Scan) (out : List ℕ) (i : ℕ) (d : Todo f o t out (drop i s)) where
  pub turn : i < length s → Todo f o (stepped t (get_or s i 0)) (stored t (get_or s i 0) out) (drop (i + 1) s)
  turn h = rw add-one (next (get_or s i 0) (drop (suc i) s) (rw (drop-cons s i 0 h) at d))

  module _ (h : length s ≤ i) (out' : List ℕ) (e : out' ≡ stored t 32 out) where
    last : Todo f o t out []
    last = rw (drop_of_length-le s h) at d

    pub read : (t.good && t.some) ≡ true → (Some (t.count + 1) ≡ count_of f) × (out' ≡ sets o 0 f.values)
    unfolding count_of
    read b =
        let a = and_true t.good t.some b in
        let z = done_by f o t out last a.0 a.1 in
        (rw (z.0, z.1), e ∙ z.2)

    pub none : (t.good && t.some) ≡ false → (None ≡ count_of f) × (out' ≡ sets o 0 f.values)
    unfolding count_of
    none b =
        let z = bad_by f o t out last b in
        (rw z.0, e ∙ z.1)

-- the cases of the first byte
pub no_bytes : (s o : List ℕ) → length s ≡ 0 → (Some 0 ≡ count_of (numbers_of s)) × (o ≡ sets o 0 (numbers_of s).values)
unfolding numbers_of count_of
no_bytes [] o h = (refl, refl)
no_bytes (b ∷ s) o h = absurd (omega arith)

pub after_first : (s : List ℕ) → (length s ≡ 0 → ⊥) → get_or s 0 0 ≡ 32 → read_on false 0 (take (length s - 1) (drop 1 s)) ≡ numbers_of s
unfolding numbers_of
after_first [] h e = absurd (h refl)
after_first (b ∷ s) h e = rw (take_all (suc (length s) - 1) s (omega arith), eq-eqb b 32 e)

pub no_blank : (s o : List ℕ) → (length s ≡ 0 → ⊥) → (get_or s 0 0 ≡ 32 → ⊥) → (None ≡ count_of (numbers_of s)) × (o ≡ sets o 0 (numbers_of s).values)
unfolding numbers_of count_of
no_blank [] o h e = absurd (h refl)
no_blank (b ∷ s) o h e = rw (ne_eqb b 32 e) (refl, refl)

-- whether a number has room for one digit more
pub room : (v d : ℕ) → d ≤ 9 → v < 1844674407370955161 → true ≡ leb (v * 10 + d) most_number
room v d h l = sym (le-leb (v * 10 + d) most_number (omega arith))

pub no_room : (v d : ℕ) → 1844674407370955161 < v → false ≡ leb (v * 10 + d) most_number
no_room v d l = sym (lt-leb (v * 10 + d) most_number (omega arith))

pub at_the_edge : (v d : ℕ) → 1844674407370955161 ≤ v → v ≤ 1844674407370955161 → leb d 5 ≡ leb (v * 10 + d) most_number
at_the_edge v d l u =
    case (leb d 5)
    (λ e. e ∙ sym (le-leb (v * 10 + d) most_number (omega (arith, leb-true d 5 e))))
    (λ e. e ∙ sym (lt-leb (v * 10 + d) most_number (omega (arith, leb-false d 5 e))))
