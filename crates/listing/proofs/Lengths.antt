-- A printed pair is short enough to count, and what its length decides.
use Prim.Native.Nat.{ℕ, ◌+◌, ◌<◌, ◌≤◌, ◌/◌, ◌%◌, ◌*◌}
use mathlib.Core.Path.{◌≡◌, ap, subst}
use mathlib.Core.List.{List, [], ◌∷◌, ◌++◌}
use mathlib.Core.Bool.{Bool, true, false, cond}
use native.Mathlib.Omega.{arith}
use lib.Dec.{eqb, leb}
use lib.ListN.{length}
use borrow.Author.Tests.{le-leb, lt-leb}
use Rattle.text.specs.Output.{Put, most, bytes}
use Rattle.text.proofs.Pieces.{measured, has_room, too_short}
use Rattle.text.proofs.Lengths.{Within, within, decimal_within, signed_within, five_within, line_within}
use Rattle.tle.specs.Read.{letter}
use Rattle.tle.specs.Refusals.{number_of}
use Rattle.tle.specs.declared.Designator.{Designator}
use Rattle.tle.specs.declared.Designator.TheVariants.{Blank, Piece}
use Rattle.tle.specs.declared.Scaled.{Scaled}
use Rattle.tle.specs.declared.Record as tle
use Rattle.std.specs.Prelude.{Err, None, Ok, Option, Result, Some}
use Rattle.tle.specs.declared.Record.{Record}
use Rattle.tle.specs.declared.Refusal.{Refusal}
use Rattle.listing.specs.Listing.{before, trimmed, designator_text, epoch_text, scaled_text, count, fields1, fields2, record_text, reading_text, answer, Prints}
use Rattle.listing.specs.Claims.{TextsFit}

one : (b : ℕ) → Within (b ∷ []) 1
one b = record { at_most = omega arith }

-- two texts with a blank between
pub spaced : {s t : List ℕ} {a b : ℕ} → Within s a → Within t b → Within (s ++ (32 ∷ t)) (a + (b + 1))
spaced {s} {t} {a} {b} h g = within h (record { at_most = omega (arith, g.at_most) })

before_within : (b : ℕ) (s : List ℕ) → length (before b s) ≤ length s + 1
before_within b [] = one_of (eqb b 32)
  where
    one_of : (t : Bool) → length (cond t [] (b ∷ [])) ≤ 1
    one_of true = omega arith
    one_of false = omega arith
before_within b (c ∷ s) = omega arith

trimmed_within : (s : List ℕ) → length (trimmed s) ≤ length s
unfolding trimmed
trimmed_within [] = omega arith
trimmed_within (b ∷ s) = omega (arith, before_within b (trimmed s), trimmed_within s)

pub designator_within : (d : Designator) → Within (designator_text d) 8
unfolding designator_text
designator_within Blank = record { at_most = omega arith }
designator_within (Piece launch a b c) = within (five_within launch) (record { at_most = trimmed_within (a ∷ b ∷ c ∷ []) })

pub epoch_within : (year day : ℕ) → Within (epoch_text year day) 62
unfolding epoch_text
epoch_within year day =
    spaced (decimal_within year) (spaced (decimal_within (day / 100000000)) (decimal_within (day % 100000000 * 864)))

scaled_within : (v : Scaled) → Within (scaled_text v) 43
unfolding scaled_text
scaled_within v = spaced (signed_within v.mantissa) (signed_within v.exponent)

pub count_within : (l : List ℕ) (n : ℕ) → Within (count l n) (length l + 21)
count_within l n = line_within l (decimal_within n)

fields1_within : (r : tle.Record) → Within (fields1 r) 450
unfolding fields1
fields1_within r =
    let h = within (count_within (bytes "number ") r.number)
    (within (line_within (bytes "class ") (one (letter r.class)))
    (within (line_within (bytes "designator ") (designator_within r.designator))
    (within (line_within (bytes "epoch ") (epoch_within r.year r.day))
    (within (line_within (bytes "ndot ") (signed_within r.ndot))
    (within (line_within (bytes "nddot ") (scaled_within r.nddot))
    (within (line_within (bytes "bstar ") (scaled_within r.bstar))
    (within (count_within (bytes "type ") r.ephemeris)
    (count_within (bytes "set ") r.element)))))))) in
    record { at_most = omega (arith, h.at_most) }

fields2_within : (r : tle.Record) → Within (fields2 r) 450
unfolding fields2
fields2_within r =
    let h = within (count_within (bytes "inclination ") r.inclination)
    (within (count_within (bytes "node ") r.node)
    (within (count_within (bytes "eccentricity ") r.eccentricity)
    (within (count_within (bytes "perigee ") r.perigee)
    (within (count_within (bytes "anomaly ") r.anomaly)
    (within (count_within (bytes "motion ") r.motion)
    (count_within (bytes "revolution ") r.revolution)))))) in
    record { at_most = omega (arith, h.at_most) }

pub reading_within : TextsFit
unfolding reading_text record_text
reading_within (Ok r) = (within (fields1_within r) (fields2_within r)).at_most
reading_within (Err why) = omega (arith, (count_within (bytes "refused ") (number_of why)).at_most)

pub reading_short : (x : Result Record Refusal) → length (reading_text x) < most
reading_short x = omega (arith, reading_within x)

-- a run over any buffer tells the length, and a second over one that has room writes the text
module _ (text o : List ℕ) (n : ℕ) (e : n ≡ length text) where
  pub refused : length o < n → Prints text o o None
  unfolding answer
  refused h =
      let g : leb (length text) (length o) ≡ false = lt-leb (length text) (length o) (omega arith) in
      record { answered = simp g; stored = too_short text o (omega arith) }

  pub written : {o' : List ℕ} {m : ℕ} → n ≤ length o → length text < most → Put o 0 text o' m → Prints text o o' (Some m)
  unfolding answer
  written h b p =
      let g : leb (length text) (length o) ≡ true = le-leb (length text) (length o) (omega arith) in
      record { answered = simp g (ap Some (measured p b)); stored = has_room p b (omega arith) }

-- the same text in other words
pub prints_same : {s t o o' : List ℕ} {a : (Option ℕ)} → s ≡ t → Prints s o o' a → Prints t o o' a
prints_same {s} {t} {o} {o'} {a} e p = subst (λ (x : List ℕ). Prints x o o' a) e p
