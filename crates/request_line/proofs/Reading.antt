-- The loop of `read_times`: one byte, and the end.
use Prim.Native.Nat.{ℕ, suc, ◌+◌, ◌*◌, ◌-◌, ◌<◌, ◌≤◌, min}
use mathlib.Core.Path.{◌≡◌, refl, sym, ap, ◌∙◌}
use mathlib.Core.List.{List, [], ◌∷◌}
use mathlib.Core.Bool.{Bool, true, false, cond, ◌&&◌}
use native.Mathlib.Omega.{arith}
use native.Mathlib.Numerals.{add-one}
use native.Mathlib.Nat.{add-suc, suc-add, zero-add}
use lib.Dec.{leb, eqb}
use lib.IntN.{ℤ}
use lib.ListN.{length, drop, get_or, drop_of_length-le}
use lib.Seq.{sets, drop-cons}
use Rattle.request_line.specs.declared.Scan.{Scan}
use Rattle.request_line.specs.Times.{Found, bad, read_on, times_of, faulty, blanked, minused, digited, stepped, stored, count_of, limit}
use Rattle.std.specs.Prelude.{None, Some}

case : {P : Type 0} (b : Bool) → (b ≡ true → P) → (b ≡ false → P) → P
case true f g = f refl
case false f g = g refl

-- a value past the limit may as well stay at it
stays : (v d : ℕ) → min (min v limit * 10 + d) limit ≡ min (v * 10 + d) limit
stays v d = omega arith

clipped : (minus some : Bool) (v : ℕ) (bs : List ℕ) → read_on minus some (min v limit) bs ≡ read_on minus some v bs
unfolding read_on
clipped minus some v [] = let e : min (min v limit) limit ≡ min v limit = omega arith in rw e
clipped minus some v (b ∷ bs) =
    let e : min (min v limit) limit ≡ min v limit = omega arith in
    let d = b - 48 in
    let g : read_on minus true (min v limit * 10 + d) bs ≡ read_on minus true (v * 10 + d) bs =
    sym (clipped minus true (min v limit * 10 + d) bs) ∙ ap (λ k. read_on minus true k bs) (stays v d) ∙ clipped minus true (v * 10 + d) bs in
    rw (e, g)

-- what the bytes to come give
unfoldable pub rest : Scan → List ℕ → Found
rest t bs = cond t.good (read_on t.minus t.some t.value bs) bad

-- a byte moves nothing but from what is to come into the row
record Same (t' t : Scan) (out' out : List ℤ) (f' f : Found) : Type 0 where
  good : f'.good ≡ f.good
  row : sets out' t'.count f'.values ≡ sets out t.count f.values
  count : t'.count + length f'.values ≡ t.count + length f.values

same : {t : Scan} {out : List ℤ} {f : Found} → Same t t out out f f
same = record { good = refl; row = refl; count = refl }

byte : (t : Scan) (b : ℕ) (bs : List ℕ) (out : List ℤ) → Same (stepped t b) t (stored t b out) out (rest (stepped t b) bs) (rest t (b ∷ bs))
unfolding rest read_on stepped stored blanked minused digited faulty
byte t b bs out =
    case t.good
    (λ g. case (eqb b 32)
    (λ e. case t.some
    (λ s. simp (g, e, s) (record {
      good = refl;
      row = rw (add-one t.count);
      count = rw (add-one t.count, suc-add t.count, add-suc t.count);
    }))
    (λ s. simp (g, e, s) (record { good = refl; row = refl; count = refl })))
    (λ e. case (eqb b 45)
    (λ m. case t.some
    (λ s. simp (g, e, m, s) (record { good = refl; row = refl; count = refl }))
    (λ s. case t.minus
    (λ n. simp (g, e, m, s, n) (record { good = refl; row = refl; count = refl }))
    (λ n. simp (g, e, m, s, n) (record { good = refl; row = refl; count = refl }))))
    (λ m. case (leb 48 b)
    (λ l. case (leb b 57)
    (λ u. let k = clipped t.minus true (t.value * 10 + (b - 48)) bs in
    simp (g, e, m, l, u, k) (record { good = refl; row = refl; count = refl }))
    (λ u. simp (g, e, m, l, u) (record { good = refl; row = refl; count = refl })))
    (λ l. simp (g, e, m, l) (record { good = refl; row = refl; count = refl })))))
    (λ g. simp g (record { good = refl; row = case (eqb b 32) (λ e. simp e) (λ e. simp e); count = refl }))

-- what is left to do is what there was to do
pub record Todo (f : Found) (o : List ℤ) (t : Scan) (out : List ℤ) (bs : List ℕ) : Type 0 where
  pub good : (rest t bs).good ≡ f.good
  pub row : sets out t.count (rest t bs).values ≡ sets o 0 f.values
  pub count : t.count + length (rest t bs).values ≡ length f.values

pub begin : (s : List ℕ) (o : List ℤ) → Todo (times_of s) o (record { good = true; minus = false; some = false; value = 0; count = 0 }) o s
unfolding rest
begin s o = record { good = refl; row = refl; count = zero-add _ }

pub next : {f : Found} {o out : List ℤ} {t : Scan} (b : ℕ) (bs : List ℕ) → Todo f o t out (b ∷ bs) → Todo f o (stepped t b) (stored t b out) bs
next {f} {o} {out} {t} b bs d =
    let s = byte t b bs out in
    record { good = s.good ∙ d.good; row = s.row ∙ d.row; count = s.count ∙ d.count }

-- how many times have begun to be read
abbrev pub begun : Scan → ℕ
begun t = t.count + cond t.some 1 0

-- the value stays within the limit, and each byte begins at most one time
record Kept (t' t : Scan) : Type 0 where
  value : t'.value ≤ limit
  count : begun t' ≤ begun t + 1

kept_by : (t : Scan) (b : ℕ) → t.value ≤ limit → Kept (stepped t b) t
unfolding stepped blanked minused digited faulty
kept_by t b h =
    case t.good
    (λ g. case (eqb b 32)
    (λ e. case t.some
    (λ s. simp (g, e, s) (record { value = omega arith; count = omega arith }))
    (λ s. simp (g, e, s) (record { value = omega arith; count = omega arith })))
    (λ e. case (eqb b 45)
    (λ m. case t.some
    (λ s. simp (g, e, m, s) (record { value = omega arith; count = omega arith }))
    (λ s. case t.minus
    (λ n. simp (g, e, m, s, n) (record { value = omega arith; count = omega arith }))
    (λ n. simp (g, e, m, s, n) (record { value = omega arith; count = omega arith }))))
    (λ m. case (leb 48 b)
    (λ l. case (leb b 57)
    (λ u. simp (g, e, m, l, u) (record { value = omega arith; count = omega arith }))
    (λ u. simp (g, e, m, l, u) (record { value = omega arith; count = omega arith })))
    (λ l. simp (g, e, m, l) (record { value = omega arith; count = omega arith })))))
    (λ g. simp g (record { value = h; count = omega arith }))

pub small : (t : Scan) (b : ℕ) → t.value ≤ limit → (stepped t b).value ≤ limit
small t b h = (kept_by t b h).value

pub rise : (t : Scan) (b : ℕ) → t.value ≤ limit → begun (stepped t b) ≤ begun t + 1
rise t b h = (kept_by t b h).count

pub begun_some : (t : Scan) (i : ℕ) → begun t ≤ i → t.some ≡ true → t.count + 1 ≤ i
begun_some t i h e = rw e at h

-- the functions of a byte
pub minus_ok : (t : Scan) → t.some ≡ false → t.minus ≡ false → record { good = true; minus = true; some = false; value = 0; count = t.count } ≡ minused t
unfolding minused
minus_ok t s m = rw (s, m)

pub digit_ok : (t : Scan) (b v : ℕ) → leb 48 b ≡ true → leb b 57 ≡ true → v ≡ min (t.value * 10 + (b - 48)) limit
    → record { good = true; minus = t.minus; some = true; value = v; count = t.count } ≡ digited t b
unfolding digited
digit_ok t b v l u e = rw (l, u, e)

module _ (t r : Scan) (b : ℕ) (e : r ≡ faulty t) where
  pub digit_above : leb 48 b ≡ true → leb b 57 ≡ false → r ≡ digited t b
  unfolding digited
  digit_above l u = rw (l, u) e

  pub digit_below : leb 48 b ≡ false → r ≡ digited t b
  unfolding digited
  digit_below l = rw l e

-- the end: the last number, or a fault
done_by : (f : Found) (o : List ℤ) (t : Scan) (out : List ℤ) → Todo f o t out [] → t.good ≡ true → t.some ≡ true
    → (f.good ≡ true) × (length f.values ≡ t.count + 1) × (stored t 32 out ≡ sets o 0 f.values)
unfolding rest read_on stored
done_by f o t out d g s =
    (sym d.good ∙ simp (g, s), sym d.count ∙ simp (g, s), simp (g, s) (sym (simp (g, s)) ∙ d.row))

pub and_true : (a b : Bool) → (a && b) ≡ true → (a ≡ true) × (b ≡ true)
and_true true true h = (refl, refl)
and_true true false h = (refl, h)
and_true false b h = (h, let z : ◌≡◌ {A = ℕ} 0 1 = cc in absurd (omega arith))

bad_by : (f : Found) (o : List ℤ) (t : Scan) (out : List ℤ) → Todo f o t out [] → (t.good && t.some) ≡ false
    → (f.good ≡ false) × (stored t 32 out ≡ sets o 0 f.values)
unfolding rest read_on stored
bad_by f o t out d h =
    case t.good
    (λ g. case t.some
    (λ s. let q : true ≡ false = rw (g, s) at h in let z : ◌≡◌ {A = ℕ} 0 1 = cc in absurd (omega arith))
    (λ s. (sym d.good ∙ simp (g, s), simp h (sym (simp (g, s)) ∙ d.row))))
    (λ g. (sym d.good ∙ simp g, simp h (sym (simp g) ∙ d.row)))

-- the loop's turn and its end, as the code meets them
module _ (s : List ℕ) (o : List ℤ) (t : Scan) (out : List ℤ) (i : ℕ) (d : Todo (times_of s) o t out (drop i s)) where
  pub turn : i < length s → Todo (times_of s) o (stepped t (get_or s i 0)) (stored t (get_or s i 0) out) (drop (i + 1) s)
  turn h = rw add-one (next (get_or s i 0) (drop (suc i) s) (rw (drop-cons s i 0 h) at d))

  module _ (h : length s ≤ i) (out' : List ℤ) (e : out' ≡ stored t 32 out) where
    last : Todo (times_of s) o t out []
    last = rw (drop_of_length-le s h) at d

    pub read : (t.good && t.some) ≡ true → (Some (t.count + 1) ≡ count_of (times_of s)) × (out' ≡ sets o 0 (times_of s).values)
    unfolding count_of
    read b =
        let a = and_true t.good t.some b in
        let z = done_by (times_of s) o t out last a.0 a.1 in
        (rw (z.0, z.1), e ∙ z.2)

    pub none : (t.good && t.some) ≡ false → (None ≡ count_of (times_of s)) × (out' ≡ sets o 0 (times_of s).values)
    unfolding count_of
    none b =
        let z = bad_by (times_of s) o t out last b in
        (rw z.0, e ∙ z.1)
