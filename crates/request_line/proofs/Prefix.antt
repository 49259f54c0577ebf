-- What a text begins with, and the cases of a request.
use Prim.Native.Nat.{ℕ, ◌-◌}
use mathlib.Core.Path.{◌≡◌, refl, sym, ap, ◌∙◌}
use mathlib.Core.List.{List, [], ◌∷◌}
use mathlib.Core.Bool.{Bool, true, false, cond, ◌&&◌}
use native.Mathlib.Omega.{arith}
use lib.Dec.{eqb}
use lib.ListN.{length, take, length-drop, drop}
use lib.Seq.{take_all, sets, length-sets}
use borrow.Author.Tests.{eq-eqb, ne_eqb, eqb-true, eqb-false}
use Rattle.std.specs.List.{starts_with}
use lib.IntN.{ℤ}
use Rattle.std.specs.Prelude.{Option}
use Rattle.request_line.specs.declared.Request as rs
use Rattle.request_line.specs.declared.Request.TheVariants.{List as ListOf, Malformed}
use Rattle.text.specs.Output.{bytes}
use Rattle.request_line.specs.Times.{times_of, count_of}
use Rattle.request_line.specs.Request.{begun, one_of, list_of, request_of, row_of}

swapped : (a b : ℕ) (t : Bool) → eqb a b ≡ t → eqb b a ≡ eqb a b
swapped a b true e = eq-eqb b a (sym (eqb-true a b e)) ∙ sym e
swapped a b false e = ne_eqb b a (λ g. eqb-false a b e (sym g)) ∙ sym e

both : (a b : Bool) → cond a b false ≡ (a && b)
both true b = refl
both false b = refl

-- what a text begins with, as the library's `starts_with` has it
pub begun_starts : (p s : List ℕ) → begun p s ≡ starts_with eqb s p
unfolding begun
begun_starts [] s = refl
begun_starts (a ∷ p) [] = refl
begun_starts (a ∷ p) (b ∷ s) =
    rw (begun_starts p s, swapped a b (eqb a b) refl) (both (eqb a b) (starts_with eqb s p))

-- the cases of a request, as the code meets them
part : (s : List ℕ) (k : ℕ) → take (length s - k) (drop k s) ≡ drop k s
part s k = take_all (length s - k) (drop k s) (simp length-drop (omega arith))

module _ (s : List ℕ) (o o' : List ℤ) where
  pub one_case : {a : Bool} (q : Option ℕ) (r : rs.Request) → a ≡ begun (bytes "one ") s → a ≡ true
      → (q ≡ count_of (times_of (take (length s - 4) (drop 4 s)))) × (o' ≡ sets o 0 (times_of (take (length s - 4) (drop 4 s))).values)
      → r ≡ one_of q (length o') → (r ≡ request_of s (length o)) × (o' ≡ row_of s o)
  unfolding request_of row_of
  one_case q r e t h g =
      let b : begun (bytes "one ") s ≡ true = sym e ∙ t in
      let k = rw (part s 4) at h in
      let n : length o' ≡ length o = ap length k.1 ∙ length-sets o 0 (times_of (drop 4 s)).values in
      (rw b (g ∙ rw (n, k.0)), rw b k.1)

  pub list_case : {a c : Bool} (q : Option ℕ) (r : rs.Request) → a ≡ begun (bytes "one ") s → a ≡ false → c ≡ begun (bytes "list ") s → c ≡ true
      → (q ≡ count_of (times_of (take (length s - 5) (drop 5 s)))) × (o' ≡ sets o 0 (times_of (take (length s - 5) (drop 5 s))).values)
      → r ≡ list_of q (length o') → (r ≡ request_of s (length o)) × (o' ≡ row_of s o)
  unfolding request_of row_of
  list_case q r e t e2 t2 h g =
      let b : begun (bytes "one ") s ≡ false = sym e ∙ t in
      let d : begun (bytes "list ") s ≡ true = sym e2 ∙ t2 in
      let k = rw (part s 5) at h in
      let n : length o' ≡ length o = ap length k.1 ∙ length-sets o 0 (times_of (drop 5 s)).values in
      (rw (b, d) (g ∙ rw (n, k.0)), rw (b, d) k.1)

module _ (s : List ℕ) (o : List ℤ) {a c x : Bool} (e : a ≡ begun (bytes "one ") s) (t : a ≡ false) (e2 : c ≡ begun (bytes "list ") s) (t2 : c ≡ false) (e3 : x ≡ begun (bytes "list") s) where
  pub empty_case : x ≡ true → length s ≡ 4 → (ListOf 0 ≡ request_of s (length o)) × (o ≡ row_of s o)
  unfolding request_of row_of
  empty_case t3 l =
      let b : begun (bytes "one ") s ≡ false = sym e ∙ t in
      let d : begun (bytes "list ") s ≡ false = sym e2 ∙ t2 in
      let f : begun (bytes "list") s ≡ true = sym e3 ∙ t3 in
      (rw (b, d, f, eq-eqb (length s) 4 l), rw (b, d))

  pub longer_case : x ≡ true → (length s ≡ 4 → ⊥) → (Malformed ≡ request_of s (length o)) × (o ≡ row_of s o)
  unfolding request_of row_of
  longer_case t3 l =
      let b : begun (bytes "one ") s ≡ false = sym e ∙ t in
      let d : begun (bytes "list ") s ≡ false = sym e2 ∙ t2 in
      let f : begun (bytes "list") s ≡ true = sym e3 ∙ t3 in
      (rw (b, d, f, ne_eqb (length s) 4 l), rw (b, d))

  pub other_case : x ≡ false → (Malformed ≡ request_of s (length o)) × (o ≡ row_of s o)
  unfolding request_of row_of
  other_case t3 =
      let b : begun (bytes "one ") s ≡ false = sym e ∙ t in
      let d : begun (bytes "list ") s ≡ false = sym e2 ∙ t2 in
      let f : begun (bytes "list") s ≡ false = sym e3 ∙ t3 in
      (rw (b, d, f), rw (b, d))
