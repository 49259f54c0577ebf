-- What each refusal says (`Refusals` of specs/Claims.antt).
use Prim.Native.Nat.{ℕ, ◌<◌}
use mathlib.Core.Path.{◌≡◌, refl, sym, ap, ◌∙◌, subst}
use mathlib.Core.List.{List}
use mathlib.Core.Bool.{Bool, true, false, cond, ◌||◌}
use native.Mathlib.Omega.{arith}
use lib.Dec.{ltb, eqb}
use lib.ListN.{length}
use borrow.Author.Tests.{ltb-true, ltb-false, le-ltb, eq-eqb}
use Rattle.std.specs.Prelude.{Err, Ok, Result}
use Rattle.award.specs.declared.AwardRefusal.{AwardRefusal}
use Rattle.award.specs.declared.AwardRefusal.TheVariants as answer
use Rattle.award.specs.Plan.{first, among, offer_count, offer_at, unsound, missing, repeated, clashing, total_of, refusing, most, number, answer_of}
use Rattle.award.specs.Claims.{FirstFault, Few, AllSound, AllThere, NoneTwice, NoClash, Refusals}
use Rattle.award.proofs.First.{none, not_among, is_first}

-- two answers of different numbers
differ : {a b : (Result (Unit {0}) AwardRefusal)} (m n : ℕ) → number a ≡ m → number b ≡ n → a ≡ b → m ≡ n
differ m n p q e = sym p ∙ ap number e ∙ q

-- a pass whose refusal is another answer found no fault
module _ (f : ℕ → Bool) (n : ℕ) (r : ℕ → AwardRefusal) (next x : Result (Unit {0}) AwardRefusal) where
  passed : ((k : ℕ) → Err (r k) ≡ x → ⊥) → refusing f n r next ≡ x → (first f n ≡ n) × (next ≡ x)
  passed h e = by (among f n) refl e
    where
      by : (t : Bool) → among f n ≡ t → cond t (Err (r (first f n))) next ≡ x → (first f n ≡ n) × (next ≡ x)
      by true q d = absurd (h _ d)
      by false q d = (not_among f n q, d)

  stopped : (next ≡ x → ⊥) → refusing f n r next ≡ x → (first f n < n) × (Err (r (first f n)) ≡ x)
  stopped h e = by (among f n) refl e
    where
      by : (t : Bool) → among f n ≡ t → cond t (Err (r (first f n))) next ≡ x → (first f n < n) × (Err (r (first f n)) ≡ x)
      by true q d = (ltb-true (first f n) n q, d)
      by false q d = absurd (h d)

  not_next : (next ≡ x → ⊥) → ((k : ℕ) → Err (r k) ≡ x → ⊥) → refusing f n r next ≡ x → ⊥
  not_next h g e = h (passed g e).1

at_first : (f : ℕ → Bool) (n k : ℕ) → first f n < n → first f n ≡ k → FirstFault f n k
at_first f n k h e = subst (λ x. FirstFault f n x) e (record { inside = h; there = (is_first f n h).0; none_before = (is_first f n h).1 })

few_by : (t u : Bool) (next x : Result (Unit {0}) AwardRefusal) → ((Err answer.TooMany) ≡ x → ⊥) → cond (t || u) (Err answer.TooMany) next ≡ x → (t ≡ false) × (u ≡ false) × (next ≡ x)
few_by true u next x h e = absurd (h e)
few_by false true next x h e = absurd (h e)
few_by false false next x h e = (refl, refl, e)

last_by : (t : Bool) (x : Result (Unit {0}) AwardRefusal) → ((Ok tt) ≡ x → ⊥) → ((Err answer.WrongTotal) ≡ x → ⊥) → cond t (Ok tt) (Err answer.WrongTotal) ≡ x → ⊥
last_by true x h g e = h e
last_by false x h g e = g e

wrong_by : (t : Bool) → cond {A = Result (Unit {0}) AwardRefusal} t (Ok tt) (Err answer.WrongTotal) ≡ Err answer.WrongTotal → t ≡ false
wrong_by true e = cc
wrong_by false e = refl

module _ (offers entries : List ℕ) (total w : ℕ) where
  abbrev n : ℕ
  n = offer_count offers

  abbrev m : ℕ
  m = length entries

  abbrev U : ℕ → Bool
  U k = unsound (offer_at offers k)

  abbrev M : ℕ → Bool
  M i = missing n entries i

  abbrev R : ℕ → Bool
  R i = repeated entries i

  abbrev C : ℕ → Bool
  C i = clashing offers entries w i

  abbrev last : Result (Unit {0}) AwardRefusal
  last = cond (eqb (total_of offers entries) total) (Ok tt) (Err answer.WrongTotal)

  abbrev from30 : Result (Unit {0}) AwardRefusal
  from30 = refusing C m answer.Clash last

  abbrev from29 : Result (Unit {0}) AwardRefusal
  from29 = refusing R m answer.NamedTwice from30

  abbrev from28 : Result (Unit {0}) AwardRefusal
  from28 = refusing M m answer.NoSuchOffer from29

  abbrev from27 : Result (Unit {0}) AwardRefusal
  from27 = refusing U n answer.Unsound from28

  abbrev whole : Result (Unit {0}) AwardRefusal
  whole = answer_of offers entries total w

  to27 : (x : Result (Unit {0}) AwardRefusal) → ((Err answer.TooMany) ≡ x → ⊥) → whole ≡ x → Few offers entries × (from27 ≡ x)
  unfolding answer_of
  to27 x h e =
      let f = few_by (ltb most n) (ltb most m) from27 x h e in
      ((ltb-false most n f.0, ltb-false most m f.1), f.2)

  module _ (x : Result (Unit {0}) AwardRefusal) (a : ℕ) (s : number x ≡ a) where
    no_18 : (18 ≡ a → ⊥) → (Err answer.TooMany) ≡ x → ⊥
    unfolding number
    no_18 h e = h (differ 18 a refl s e)

    no_27 : (27 ≡ a → ⊥) → (k : ℕ) → Err (answer.Unsound k) ≡ x → ⊥
    unfolding number
    no_27 h k e = h (differ 27 a refl s e)

    no_28 : (28 ≡ a → ⊥) → (k : ℕ) → Err (answer.NoSuchOffer k) ≡ x → ⊥
    unfolding number
    no_28 h k e = h (differ 28 a refl s e)

    no_29 : (29 ≡ a → ⊥) → (k : ℕ) → Err (answer.NamedTwice k) ≡ x → ⊥
    unfolding number
    no_29 h k e = h (differ 29 a refl s e)

    no_30 : (30 ≡ a → ⊥) → (k : ℕ) → Err (answer.Clash k) ≡ x → ⊥
    unfolding number
    no_30 h k e = h (differ 30 a refl s e)

    no_last : (0 ≡ a → ⊥) → (31 ≡ a → ⊥) → last ≡ x → ⊥
    unfolding number
    no_last h g = last_by (eqb (total_of offers entries) total) x (λ e. h (differ 0 a refl s e)) (λ e. g (differ 31 a refl s e))

  one_less : {a b : ℕ} → (a < b) → a ≡ b → ⊥
  one_less h e = omega arith

  one_more : {a b : ℕ} → (b < a) → a ≡ b → ⊥
  one_more h e = omega arith

  not_30 : (x : Result (Unit {0}) AwardRefusal) (a : ℕ) → number x ≡ a → (0 ≡ a → ⊥) → (31 ≡ a → ⊥) → (30 ≡ a → ⊥) → from30 ≡ x → ⊥
  not_30 x a s p q r = not_next C m answer.Clash last x (no_last x a s p q) (no_30 x a s r)

  not_29 : (x : Result (Unit {0}) AwardRefusal) (a : ℕ) → number x ≡ a → (0 ≡ a → ⊥) → (31 ≡ a → ⊥) → (30 ≡ a → ⊥) → (29 ≡ a → ⊥) → from29 ≡ x → ⊥
  not_29 x a s p q r t = not_next R m answer.NamedTwice from30 x (not_30 x a s p q r) (no_29 x a s t)

  not_28 : (x : Result (Unit {0}) AwardRefusal) (a : ℕ) → number x ≡ a → (0 ≡ a → ⊥) → (31 ≡ a → ⊥) → (30 ≡ a → ⊥) → (29 ≡ a → ⊥) → (28 ≡ a → ⊥) → from28 ≡ x → ⊥
  not_28 x a s p q r t u = not_next M m answer.NoSuchOffer from29 x (not_29 x a s p q r t) (no_28 x a s u)

  is_18 : whole ≡ Err answer.TooMany → Few offers entries → ⊥
  unfolding answer_of number
  is_18 e f =
      let d : from27 ≡ (Err answer.TooMany) = rw (le-ltb most n f.0, le-ltb most m f.1) at e in
      not_next U n answer.Unsound from28 (Err answer.TooMany)
      (not_28 (Err answer.TooMany) 18 refl (one_less (omega arith)) (one_more (omega arith)) (one_more (omega arith)) (one_more (omega arith)) (one_more (omega arith)))
      (no_27 (Err answer.TooMany) 18 refl (one_more (omega arith))) d

  is_27 : (k : ℕ) → whole ≡ Err (answer.Unsound k) → Few offers entries × FirstFault U n k
  unfolding number
  is_27 k e =
      let x : Result (Unit {0}) AwardRefusal = Err (answer.Unsound k) in
      let f = to27 x (no_18 x 27 refl (one_less (omega arith))) e in
      let d = stopped U n answer.Unsound from28 x
      (not_28 x 27 refl (one_less (omega arith)) (one_more (omega arith)) (one_more (omega arith)) (one_more (omega arith)) (one_more (omega arith)))
      f.1 in
      let h : first U n ≡ k = cc d.1 in
      (f.0, at_first U n k d.0 h)

  is_28 : (i : ℕ) → whole ≡ Err (answer.NoSuchOffer i) → Few offers entries × AllSound offers entries × FirstFault M m i
  unfolding number
  is_28 i e =
      let x : Result (Unit {0}) AwardRefusal = Err (answer.NoSuchOffer i) in
      let f = to27 x (no_18 x 28 refl (one_less (omega arith))) e in
      let a = passed U n answer.Unsound from28 x (no_27 x 28 refl (one_less (omega arith))) f.1 in
      let d = stopped M m answer.NoSuchOffer from29 x
      (not_29 x 28 refl (one_less (omega arith)) (one_more (omega arith)) (one_more (omega arith)) (one_more (omega arith))) a.1 in
      let h : first M m ≡ i = cc d.1 in
      (f.0, none U n a.0, at_first M m i d.0 h)

  is_29 : (i : ℕ) → whole ≡ Err (answer.NamedTwice i) → Few offers entries × AllSound offers entries × AllThere offers entries × FirstFault R m i
  unfolding number
  is_29 i e =
      let x : Result (Unit {0}) AwardRefusal = Err (answer.NamedTwice i) in
      let f = to27 x (no_18 x 29 refl (one_less (omega arith))) e in
      let a = passed U n answer.Unsound from28 x (no_27 x 29 refl (one_less (omega arith))) f.1 in
      let b = passed M m answer.NoSuchOffer from29 x (no_28 x 29 refl (one_less (omega arith))) a.1 in
      let d = stopped R m answer.NamedTwice from30 x (not_30 x 29 refl (one_less (omega arith)) (one_more (omega arith)) (one_more (omega arith))) b.1 in
      let h : first R m ≡ i = cc d.1 in
      (f.0, none U n a.0, none M m b.0, at_first R m i d.0 h)

  is_30 : (i : ℕ) → whole ≡ Err (answer.Clash i) → Few offers entries × AllSound offers entries × AllThere offers entries × NoneTwice offers entries × FirstFault C m i
  unfolding number
  is_30 i e =
      let x : Result (Unit {0}) AwardRefusal = Err (answer.Clash i) in
      let f = to27 x (no_18 x 30 refl (one_less (omega arith))) e in
      let a = passed U n answer.Unsound from28 x (no_27 x 30 refl (one_less (omega arith))) f.1 in
      let b = passed M m answer.NoSuchOffer from29 x (no_28 x 30 refl (one_less (omega arith))) a.1 in
      let c = passed R m answer.NamedTwice from30 x (no_29 x 30 refl (one_less (omega arith))) b.1 in
      let d = stopped C m answer.Clash last x (no_last x 30 refl (one_less (omega arith)) (one_more (omega arith))) c.1 in
      let h : first C m ≡ i = cc d.1 in
      (f.0, none U n a.0, none M m b.0, none R m c.0, at_first C m i d.0 h)

  is_31 : whole ≡ Err answer.WrongTotal → Few offers entries × AllSound offers entries × AllThere offers entries × NoneTwice offers entries × NoClash offers entries w × (total_of offers entries ≡ total → ⊥)
  unfolding number
  is_31 e =
      let x : Result (Unit {0}) AwardRefusal = Err answer.WrongTotal in
      let f = to27 x (no_18 x 31 refl (one_less (omega arith))) e in
      let a = passed U n answer.Unsound from28 x (no_27 x 31 refl (one_less (omega arith))) f.1 in
      let b = passed M m answer.NoSuchOffer from29 x (no_28 x 31 refl (one_less (omega arith))) a.1 in
      let c = passed R m answer.NamedTwice from30 x (no_29 x 31 refl (one_less (omega arith))) b.1 in
      let d = passed C m answer.Clash last x (no_30 x 31 refl (one_less (omega arith))) c.1 in
      let t = wrong_by (eqb (total_of offers entries) total) d.1 in
      (f.0, none U n a.0, none M m b.0, none R m c.0, none C m d.0, (λ g. let z = eq-eqb (total_of offers entries) total g in let y : ◌≡◌ {A = ℕ} 0 1 = cc in omega arith))

pub refusals : (offers entries : List ℕ) (total turnaround : ℕ) → Refusals offers entries total turnaround
refusals offers entries total w = record {
  is_18 = is_18 offers entries total w;
  is_27 = is_27 offers entries total w;
  is_28 = is_28 offers entries total w;
  is_29 = is_29 offers entries total w;
  is_30 = is_30 offers entries total w;
  is_31 = is_31 offers entries total w;
}
