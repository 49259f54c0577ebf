-- The claims of specs/Claims: how long a line can be.
use Prim.Native.Nat.{ℕ, ◌/◌, ◌^◌, ◌≤◌}
use native.Mathlib.Omega.{arith}
use mathlib.Core.Bool.{Bool, true, false, cond, ◌&&◌}
use mathlib.Core.List.{List, ◌∷◌}
use lib.Dec.{eqb, ltb}
use lib.Ieee.{Float, lt}
use lib.ListN.{length, length-append}
use Rattle.floats.specs.Notation.{dec}
use Rattle.text.specs.Output.{bytes}
use Rattle.text.proofs.Lengths.{decimal_within}
use Rattle.decimals.specs.Fixed.{units_of, shown, units_text, signed_text, fixed_text}
use Rattle.decimals.proofs.Spelled.{length_places}
use Rattle.date_text.specs.Date.{day_text, time_text, date_text, instant_text}
use Rattle.instant.specs.Calendar.{date_of}
use Rattle.std.specs.Prelude.{Err, None, Ok, Option, Result, Some}
use Rattle.instant.specs.declared.Date.{Date}
use Rattle.instant.specs.declared.Instant.{Instant}
use Rattle.instant.specs.declared.MoveRefusal.{MoveRefusal}
use Rattle.instant.specs.declared.MoveRefusal.TheVariants as move_refusal
use Rattle.ephemeris_text.specs.declared.State.{State}
use Rattle.ephemeris_text.specs.Rows.{three_words, state_names, header_text, three_numbers, state_text, no_state, values_text, when_text, row_text}
use Rattle.ephemeris_text.specs.Claims.{RowFits, HeaderFits}

either : (b : Bool) (s t : List ℕ) (k : ℕ) → length s ≤ k → length t ≤ k → length (cond b s t) ≤ k
either true s t k h g = h
either false s t k h g = g

units_length : (p n : ℕ) → p ≤ 9 → length (units_text p n) ≤ 30
unfolding units_text
units_length p n h = simp length-append (omega (arith, (decimal_within (n / 10 ^ p)).at_most, length_places 10 p n))

signed_length : (minus : Bool) (s : List ℕ) → length s ≤ 30 → length (signed_text minus s) ≤ 31
unfolding signed_text
signed_length minus s h = either minus (45 ∷ s) s 31 (omega arith) (omega arith)

fixed_length : (p : ℕ) (x : Float) → p ≤ 9 → length (fixed_text p x) ≤ 31
unfolding fixed_text
fixed_length p x h =
    let n = units_of p x in
    either (shown p x) (signed_text (lt x (dec 0 0) && ltb 0 n) (units_text p n)) (bytes "*") 31
    (signed_length (lt x (dec 0 0) && ltb 0 n) (units_text p n) (units_length p n h)) (omega arith)

three_length : (sep p : ℕ) (x y z : Float) → p ≤ 9 → length (three_numbers sep p x y z) ≤ 96
unfolding three_numbers
three_length sep p x y z h = simp length-append (omega (arith, fixed_length p x h, fixed_length p y h, fixed_length p z h))

values_length : (sep refusal : ℕ) (s : State) → length (values_text sep refusal s) ≤ 192
unfolding values_text state_text no_state three_words
values_length sep refusal s =
    either (eqb refusal 0) (state_text sep s) (no_state sep) 192
    (simp length-append (omega (arith, three_length sep 6 s.x s.y s.z (omega arith), three_length sep 9 s.vx s.vy s.vz (omega arith))))
    (simp length-append (omega arith))

date_length : (d : Option Date) → length (date_text d) ≤ 26
unfolding date_text day_text time_text
date_length (Some d) = simp (length-append, length_places) (omega arith)
date_length None = omega arith

when_length : (when : Result Instant MoveRefusal) → length (when_text when) ≤ 26
unfolding when_text instant_text
when_length (Ok t) = date_length (date_of t.0)
when_length (Err move_refusal.TooFar) = omega arith
when_length (Err move_refusal.Outside) = omega arith

pub row_fits : RowFits
unfolding row_text
row_fits sep when refusal s strides =
    simp length-append
    (omega (arith, when_length when, (decimal_within refusal).at_most, values_length sep refusal s, (decimal_within strides).at_most))

pub header_fits : HeaderFits
unfolding header_text state_names three_words
header_fits sep = omega arith
