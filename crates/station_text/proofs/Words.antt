-- A word: where it ends, and its digits.
use Prim.Native.Nat.{ℕ, suc, ◌+◌, ◌*◌, ◌-◌, ◌/◌, ◌<◌, ◌≤◌}
use mathlib.Core.Path.{◌≡◌, refl, sym, ap, ◌∙◌}
use mathlib.Core.List.{List}
use mathlib.Core.Bool.{Bool, true, false, cond, not}
use native.Mathlib.Omega.{arith}
use native.Mathlib.Numerals.{add-one}
use native.Mathlib.Nat.{div-le_of_le-mul}
use lib.Dec.{eqb}
use Rattle.std.specs.List.{position, position_or_len}
use Rattle.std.specs.Option.{unwrap_or}
use Rattle.std.proofs.Common.{Some, None, nat_lt}
use Rattle.std.proofs.lemmas.List.Sums.{prefix_len-le-length}
use Rattle.std.proofs.lemmas.List.Recursion.{is_position_or_len}
use lib.ListN.{length, take, drop, get_or, length-take, length-drop, drop_of_length-le}
use lib.Seq.{drop-cons, take_all}
use borrow.Author.Tests.{lt-ltb, le-ltb, ltb-false}
use Rattle.station_text.specs.declared.Whole.{Whole}
use Rattle.station_text.specs.declared.Decimal.{Decimal}
use Rattle.station_text.specs.Words.{cut_at, behind, rest, first, second, third, digits_on, pushed, bad, formed, six_places, onward, micro_of, signed_of, sign_size, decimal_in}

one_further : (b mark n : ℕ) → cond (eqb b mark) 0 (suc n) ≡ cond (eqb b mark) 0 (1 + n)
one_further b mark n = let e : suc n ≡ 1 + n = omega arith in rw e

-- where a mark stands, as the library's `position` has it
pub cut_position : (mark : ℕ) (s : List ℕ) → cut_at mark s ≡ position_or_len (λ b. eqb b mark) s
unfolding cut_at
cut_position mark s = is_position_or_len (cut_at mark) (λ b. eqb b mark) refl (λ b bs. one_further b mark (cut_at mark bs)) s

module _ (p : ℕ → Bool) (s : List ℕ) where
  within : position_or_len p s ≤ length s
  within = prefix_len-le-length (λ x. not (p x)) s

  or_end : (t : Bool) → nat_lt (position_or_len p s) (length s) ≡ t → unwrap_or (cond t (Some (position_or_len p s)) None) (length s) ≡ position_or_len p s
  or_end true e = refl
  or_end false e = omega (arith, within, ltb-false (position_or_len p s) (length s) e)

  pub position_or_end : unwrap_or (position p s) (length s) ≡ position_or_len p s
  position_or_end = or_end (nat_lt (position_or_len p s) (length s)) refl

pub cut_within : (mark : ℕ) (s : List ℕ) → cut_at mark s ≤ length s
cut_within mark s = rw (cut_position mark s) (within (λ b. eqb b mark) s)

pub cut_or_end : (mark : ℕ) (s : List ℕ) → unwrap_or (position (λ b. eqb b mark) s) (length s) ≡ cut_at mark s
cut_or_end mark s = position_or_end (λ b. eqb b mark) s ∙ sym (cut_position mark s)

pub none_behind : (s : List ℕ) (n : ℕ) → length s ≤ n → drop (length s) s ≡ behind n s
unfolding behind
none_behind s n h =
    let l : length s ≤ length s = omega arith in
    let g : length s ≤ n + 1 = omega arith in
    drop_of_length-le s l ∙ sym (drop_of_length-le s g)

-- the rest of a text from an index on, as a slice has it
pub tail : (s : List ℕ) (i k : ℕ) → k ≡ length s - i → take k (drop i s) ≡ drop i s
tail s i k e = take_all k (drop i s) (rw length-drop (omega (arith, e)))

pub sized : (s : List ℕ) (n : ℕ) → n ≤ length s → n ≡ length (take n s)
sized s n h = rw length-take (omega arith)

-- the three words of a line, as slices of it
module _ (s : List ℕ) (n i : ℕ) (en : n ≡ cut_at 32 s) (ei : drop i s ≡ behind n s) where
  abbrev left : List ℕ
  left = take (length s - i) (drop i s)

  at_rest : left ≡ rest s
  at_rest = tail s i (length s - i) refl ∙ ei ∙ ap (λ (k : ℕ). behind k s) en

  pub word_one : take n s ≡ first s
  word_one = ap (λ (k : ℕ). take k s) en

  module _ (m : ℕ) (em : m ≡ cut_at 32 left) where
    pub word_two : take m left ≡ second s
    word_two = ap (λ (k : ℕ). take k left) em ∙ ap (λ (t : List ℕ). first t) at_rest

    pub word_three : (j k : ℕ) → drop j left ≡ behind m left → k ≡ length left - j → take k (drop j left) ≡ third s
    word_three j k ej ek = tail left j k ek ∙ ej ∙ ap (λ (k : ℕ). behind k left) em ∙ ap (λ (t : List ℕ). rest t) at_rest

-- a decimal's two parts, the second a slice
module _ (s : List ℕ) (n i : ℕ) (en : n ≡ cut_at 46 s) (ei : drop i s ≡ behind n s) where
  abbrev fraction : List ℕ
  fraction = take (length s - i) (drop i s)

  at_point : fraction ≡ behind (cut_at 46 s) s
  at_point = tail s i (length s - i) refl ∙ ei ∙ ap (λ (k : ℕ). behind k s) en

  same_form : formed (length s) n (length fraction) ≡ formed (length s) (cut_at 46 s) (length (behind (cut_at 46 s) s))
  same_form = ap (λ (k : ℕ). formed (length s) k (length fraction)) en ∙ ap (λ (t : List ℕ). formed (length s) (cut_at 46 s) (length t)) at_point

  pub micro_good : {r : Whole} → formed (length s) n (length fraction) ≡ true → r ≡ onward (digits_on 0 (take n s)) (six_places fraction) → r ≡ micro_of s
  unfolding micro_of
  micro_good f e =
      e ∙ ap (λ (k : ℕ). onward (digits_on 0 (take k s)) (six_places fraction)) en
      ∙ ap (λ (t : List ℕ). onward (digits_on 0 (take (cut_at 46 s) s)) (six_places t)) at_point ∙ simp (sym same_form ∙ f)

  pub micro_bad : formed (length s) n (length fraction) ≡ false → bad ≡ micro_of s
  unfolding micro_of
  micro_bad f = simp (sym same_form ∙ f)

pub decimal_read : (s : List ℕ) (k : ℕ) {m : Whole} {r : Decimal} → k ≡ sign_size s → m ≡ micro_of (take (length s - k) (drop k s))
    → r ≡ signed_of (eqb k 1) m → r ≡ decimal_in s
unfolding decimal_in
decimal_read s k e g f =
    f ∙ ap (λ (x : Whole). signed_of (eqb k 1) x) (g ∙ ap micro_of (tail s k (length s - k) refl))
    ∙ ap (λ (j : ℕ). signed_of (eqb j 1) (micro_of (drop j s))) e

module _ (v : ℕ) (s : List ℕ) (i : ℕ) where
  pub digit_on : i < length s → 48 ≤ get_or s i 0 → get_or s i 0 ≤ 57 → digits_on v (drop i s) ≡ digits_on (pushed v (get_or s i 0 - 48)) (drop (i + 1) s)
  unfolding digits_on
  digit_on h l u = rw (drop-cons s i 0 h, le-ltb (get_or s i 0) 48 l, le-ltb 57 (get_or s i 0) u, add-one i)

  pub below_digits : i < length s → get_or s i 0 < 48 → digits_on v (drop i s) ≡ bad
  unfolding digits_on
  below_digits h l = rw (drop-cons s i 0 h, lt-ltb (get_or s i 0) 48 l)

  pub above_digits : i < length s → 48 ≤ get_or s i 0 → 57 < get_or s i 0 → digits_on v (drop i s) ≡ bad
  unfolding digits_on
  above_digits h l u = rw (drop-cons s i 0 h, le-ltb (get_or s i 0) 48 l, lt-ltb 57 (get_or s i 0) u)

  pub digits_end : length s ≤ i → digits_on v (drop i s) ≡ record { good = true; value = v }
  unfolding digits_on
  digits_end h = rw (drop_of_length-le s h)

-- the number of samples has room
pub few : (n step : ℕ) → n ≤ 18446744073709551615 → 1 ≤ step → n / (step * 1000000) ≤ 18446744073710
few n step h g = div-le_of_le-mul (step * 1000000) {m = n} {n = 18446744073710} (omega arith)
