-- One place more of a pass over a buffer.
use Prim.Native.Nat.{ℕ, zero, suc, ◌+◌, ◌-◌, ◌*◌, ◌<◌, ◌≤◌}
use mathlib.Core.Path.{◌≡◌, refl, ap, sym, ◌∙◌}
use mathlib.Core.Bool.{Bool, true, false, cond}
use mathlib.Core.List.{List, [], ◌∷◌}
use mathlib.Core.Option.{Option, none, some}
use native.Mathlib.Omega.{arith}
use borrow.Author.Tests.{le-leb, lt-leb}
use lib.Dec.{ltb}
use lib.ListN.{length, take, drop, set, replicate, length-drop}
use lib.Seq.{take_all, drop-drop}
use Rattle.tle.specs.declared.Record.{Record}
use Rattle.roster.specs.Records.{instant_of}
use Rattle.roster.specs.Roster.{all_zero, place_of, in_front, pairs_in}
use Rattle.roster.specs.Scan.{tallied, tallies, resumed, scanned_of}
use Rattle.std.specs.Prelude.{None, Option as Optional, Some}
use Rattle.roster.specs.declared.scan.Tally.{Tally}
use Rattle.roster.specs.declared.scan.Contents.{Contents}

pub ended : (k low : ℕ) (b : List ℕ) → all_zero b ≡ true → pairs_in k low b ≡ some []
unfolding pairs_in
ended zero low b h = refl
ended (suc k) low b h = rw h

-- k + 1 places are left, and not all of them zeros
module _ (k low : ℕ) (b : List ℕ) (nonzero : all_zero b ≡ false) where
  pub damaged : place_of (take 138 b) ≡ None → pairs_in (suc k) low b ≡ none
  unfolding pairs_in
  damaged e = rw (nonzero, e)

  pub disordered : (r : Record) → place_of (take 138 b) ≡ Some r → r.number < low → pairs_in (suc k) low b ≡ none
  unfolding pairs_in
  disordered r e h = rw (nonzero, e, lt-leb low r.number h)

  pub paired : (r : Record) → place_of (take 138 b) ≡ Some r → low ≤ r.number → pairs_in (suc k) low b ≡ in_front r (pairs_in k (r.number + 1) (drop 138 b))
  unfolding pairs_in
  paired r e h = rw (nonzero, e, le-leb low r.number h)

-- ── what is left of a pass ──

-- the instants of records put into the places from i on
unfoldable pub stored : ℕ → List Record → List ℕ → List ℕ
stored i [] l = l
stored i (r ∷ rs) l = stored (i + 1) rs (set l i (instant_of r))

abbrev pub stored_in : ℕ → Option (List Record) → List ℕ → List ℕ
stored_in i none l = replicate 64 0
stored_in i (some rs) l = stored i rs l

-- a pass at place i, with the tally t and the instants l, that has these records left
abbrev pub passing : Tally → ℕ → List ℕ → Option (List Record) → Contents
passing t i l o = record { found = resumed t o; row = stored_in i o l }

abbrev over : Tally → List ℕ → Contents
over t l = record { found = Some t; row = l }

abbrev lost : Contents
lost = record { found = None; row = replicate 64 0 }

passing_in_front : (t : Tally) (i : ℕ) (l : List ℕ) (r : Record) (o : Option (List Record))
    → passing t i l (in_front r o) ≡ passing (tallied t r) (i + 1) (set l i (instant_of r)) o
unfolding tallies stored
passing_in_front t i l r none = refl
passing_in_front t i l r (some rs) = refl

passing_end : (t : Tally) (i : ℕ) (l : List ℕ) → passing t i l (some []) ≡ over t l
unfolding tallies stored
passing_end t i l = refl

-- ── a pass over the whole buffer b, at place i ──

rest : (b : List ℕ) (a : ℕ) → take (length b - a) (drop a b) ≡ drop a b
rest b a = take_all (length b - a) (drop a b) (rw length-drop (omega arith))

first : (b : List ℕ) (a : ℕ) → take (a + 138 - a) (drop a b) ≡ take 138 (drop a b)
first b a = let e : a + 138 - a ≡ 138 = omega arith in rw e

abbrev pub At : List ℕ → ℕ → ℕ → Tally → List ℕ → Type 0
At b n i t l = scanned_of n (pairs_in 64 0 b) ≡ passing t i l (pairs_in (64 - i) t.low (drop (i * 138) b))

module _ (b : List ℕ) (n i : ℕ) (t : Tally) (l : List ℕ) (so_far : At b n i t l) where
  pub pass_full : 64 ≤ i → over t l ≡ scanned_of n (pairs_in 64 0 b)
  unfolding pairs_in
  pass_full h =
      let e : 64 - i ≡ 0 = omega arith in
      sym (so_far ∙ ap (λ (k : ℕ). passing t i l (pairs_in k t.low (drop (i * 138) b))) e ∙ passing_end t i l)

  module _ (x : Bool) (tested : x ≡ all_zero (take (length b - i * 138) (drop (i * 138) b))) where
    rested : x ≡ all_zero (drop (i * 138) b)
    rested = tested ∙ ap all_zero (rest b (i * 138))

    pub pass_ended : x ≡ true → over t l ≡ scanned_of n (pairs_in 64 0 b)
    pass_ended h =
        sym (so_far ∙ ap (passing t i l) (ended (64 - i) t.low (drop (i * 138) b) (sym rested ∙ h)) ∙ passing_end t i l)

    module _ (some_left : i < 64) (left_over : x ≡ false) (p : Optional Record) (placed : p ≡ place_of (take (i * 138 + 138 - i * 138) (drop (i * 138) b))) where
      left : 64 - i ≡ suc (64 - (i + 1))
      left = omega arith

      nonzero : all_zero (drop (i * 138) b) ≡ false
      nonzero = sym rested ∙ left_over

      put : place_of (take 138 (drop (i * 138) b)) ≡ p
      put = sym (placed ∙ ap place_of (first b (i * 138)))

      whole : scanned_of n (pairs_in 64 0 b) ≡ passing t i l (pairs_in (suc (64 - (i + 1))) t.low (drop (i * 138) b))
      whole = so_far ∙ ap (λ (k : ℕ). passing t i l (pairs_in k t.low (drop (i * 138) b))) left

      pub pass_damaged : p ≡ None → lost ≡ scanned_of n (pairs_in 64 0 b)
      pass_damaged e =
          sym (whole ∙ ap (passing t i l) (damaged (64 - (i + 1)) t.low (drop (i * 138) b) nonzero (put ∙ e)))

      pub pass_disordered : (r : Record) → p ≡ Some r → r.number < t.low → lost ≡ scanned_of n (pairs_in 64 0 b)
      pass_disordered r e h =
          sym (whole ∙ ap (passing t i l) (disordered (64 - (i + 1)) t.low (drop (i * 138) b) nonzero r (put ∙ e) h))

      pub pass_more : (r : Record) (u : Tally) (v : ℕ) → p ≡ Some r → t.low ≤ r.number → u ≡ tallied t r → v ≡ instant_of r → At b n (i + 1) u (set l i v)
      unfolding tallied
      pass_more r u v e h f g =
          let far : i * 138 + 138 ≡ (i + 1) * 138 = omega arith in
          rw (f, g)
          (whole ∙ ap (passing t i l) (paired (64 - (i + 1)) t.low (drop (i * 138) b) nonzero r (put ∙ e) h)
          ∙ passing_in_front t i l r (pairs_in (64 - (i + 1)) (r.number + 1) (drop 138 (drop (i * 138) b)))
          ∙ ap (λ (d : List ℕ). passing (tallied t r) (i + 1) (set l i (instant_of r)) (pairs_in (64 - (i + 1)) (r.number + 1) d)) (drop-drop 138 (i * 138) b ∙ ap (λ (k : ℕ). drop k b) far))

-- what is counted stays small
pub small : (t u : Tally) (r : Record) (i : ℕ) → t.count ≡ i → t.below ≤ i → u ≡ tallied t r → (u.count ≡ i + 1) × (u.below ≤ i + 1)
unfolding tallied
small t u r i h g f = rw f (omega arith, below_small (ltb r.number t.number) t.below i g)
  where
    below_small : (x : Bool) (m i : ℕ) → m ≤ i → cond x (m + 1) m ≤ i + 1
    below_small true m i h = omega arith
    below_small false m i h = omega arith
