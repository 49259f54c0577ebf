-- The first place of a catalogue number by ranges of bytes, and its bytes by what they stand for.
use Prim.Native.Nat.{ℕ, suc, ◌+◌, ◌-◌, ◌<◌, ◌≤◌}
use mathlib.Core.Path.{◌≡◌, refl}
use mathlib.Core.List.{List, [], ◌∷◌}
use mathlib.Core.Bool.{Bool, true, false, cond, not, ◌||◌, and-false}
use native.Mathlib.Omega.{arith}
use borrow.Author.Tests.{eqb-true, ne_eqb, ltb-true, ltb-false, lt-ltb, le-ltb, le-leb, lt-leb}
use lib.Dec.{eqb, leb, ltb}
use lib.ListN.{length, get_or}
use Rattle.text.specs.Output.{bytes}
use Rattle.columns.specs.Layout.{opens_number}
use Rattle.columns.specs.Sum.{digit_of}
use Rattle.columns.specs.FirstPlace.{first_places, position, first_of}
use Rattle.columns.proofs.Every.{every, at}

-- digits; A to H, J to N and P to Z in a row each; nothing else
abbrev by_ranges : ℕ → ℕ
by_ranges b =
    cond (ltb b 65) (digit_of b)
    (cond (ltb b 73) (b - 65 + 10)
    (cond (eqb b 73) 0
    (cond (ltb b 79) (b - 74 + 18)
    (cond (eqb b 79) 0
    (cond (leb b 90) (b - 80 + 23) 0)))))

all_bytes : every (λ b. eqb (by_ranges b) (first_of b)) 256 ≡ true
unfolding digit_of first_of position
all_bytes = refl

module _ (b : ℕ) (h : b < 256) where
  ranges : by_ranges b ≡ first_of b
  ranges = eqb-true (by_ranges b) (first_of b) (at (λ b. eqb (by_ranges b) (first_of b)) 256 all_bytes b h)

  pub below_A : b < 65 → digit_of b ≡ first_of b
  below_A l = rw (lt-ltb b 65 l) at ranges

  pub a_to_h : 65 ≤ b → b < 73 → b - 65 + 10 ≡ first_of b
  a_to_h g l = rw (le-ltb b 65 g, lt-ltb b 73 l) at ranges

  pub at_I : b ≡ 73 → 0 ≡ first_of b
  unfolding first_of position
  at_I e = rw e

  pub J-to-N : 74 ≤ b → b < 79 → b - 74 + 18 ≡ first_of b
  J-to-N g l = rw (le-ltb b 65 (omega arith), le-ltb b 73 (omega arith), ne_eqb b 73 (λ e. omega arith), lt-ltb b 79 l) at ranges

  pub at_O : b ≡ 79 → 0 ≡ first_of b
  unfolding first_of position
  at_O e = rw e

  past_O : 80 ≤ b → cond (leb b 90) (b - 80 + 23) 0 ≡ first_of b
  past_O g =
      rw (le-ltb b 65 (omega arith), le-ltb b 73 (omega arith), ne_eqb b 73 (λ d. omega arith), le-ltb b 79 (omega arith), ne_eqb b 79 (λ d. omega arith))
      at ranges

  pub P-to-Z : 80 ≤ b → b ≤ 90 → b - 80 + 23 ≡ first_of b
  P-to-Z g l = rw (le-leb b 90 l) at (past_O g)

  pub above_Z : 90 < b → 0 ≡ first_of b
  above_Z g = rw (lt-leb b 90 g) at (past_O (omega arith))

-- a position in a list of places is below their number
position_by : (t : Bool) (n b : ℕ) (cs : List ℕ) → position (suc n) b cs < n + suc (length cs) → cond t n (position (suc n) b cs) < n + suc (length cs)
position_by true n b cs h = omega arith
position_by false n b cs h = h

position_below : (n b c : ℕ) (cs : List ℕ) → position n b (c ∷ cs) < n + suc (length cs)
unfolding position
position_below n b c [] = position_by (eqb b c) n b [] (omega arith)
position_below n b c (d ∷ cs) = position_by (eqb b c) n b (d ∷ cs) (omega (arith, position_below (suc n) b d cs))

pub first_below : (b : ℕ) → first_of b < 34
unfolding first_of
first_below b = position_below 0 b 48 (bytes "123456789ABCDEFGHJKLMNPQRSTUVWXYZ")

-- the bytes of a first place, computed one after the other: each may stand there, and stands for its position
places_open : every (λ k. opens_number (get_or first_places k 0)) 34 ≡ true
places_open = refl

places_stand : every (λ k. eqb (first_of (get_or first_places k 0)) k) 34 ≡ true
unfolding first_of position
places_stand = refl

pub place_opens : (k : ℕ) → k < 34 → opens_number (get_or first_places k 0) ≡ true
place_opens = at (λ k. opens_number (get_or first_places k 0)) 34 places_open

pub first_back : (k : ℕ) → k < 34 → first_of (get_or first_places k 0) ≡ k
first_back k h = eqb-true (first_of (get_or first_places k 0)) k (at (λ k. eqb (first_of (get_or first_places k 0)) k) 34 places_stand k h)

-- and a byte that may stand there is the one at the position of what it stands for
abbrev returned : ℕ → Bool
returned b = not (opens_number b) || eqb (get_or first_places (first_of b) 0) b

bytes_return : every returned 91 ≡ true
unfolding first_of position
bytes_return = refl

no_opening : (b : ℕ) → 91 ≤ b → opens_number b ≡ false
no_opening b h = simp (lt-leb b 57 (omega arith), lt-leb b 90 (omega arith), and-false)

byte_returns : (b : ℕ) (t : Bool) → ltb b 91 ≡ t → returned b ≡ true
byte_returns b true e = at returned 91 bytes_return b (ltb-true b 91 e)
byte_returns b false e = rw (no_opening b (ltb-false b 91 e))

pub place_back : (b : ℕ) → opens_number b ≡ true → get_or first_places (first_of b) 0 ≡ b
place_back b o = eqb-true (get_or first_places (first_of b) 0) b (rw o at (byte_returns b (ltb b 91) refl))
