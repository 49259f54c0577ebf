-- 002's sgp4: Kepler's equation (lines 3505-3522). Definitions only.
-- Document 01: at most ten rounds, stops below 1E-12, each correction held within 0.95; the rounds taken are in the answer.
use Rattle.std.specs.Prelude.{ℕ, zero, suc, ◌+◌, Bool, true, false, cond, Float}
use Rattle.std.specs.Float.Ieee.{neg, lt, le}
use Rattle.elementary.specs.Notation.{◌⊕◌, ◌⊖◌, ◌⊗◌, ◌⊘◌, dec}
use Rattle.elementary.specs.Power.{abs_of}
use Rattle.elementary.specs.Trig.{sin_of, cos_of}
use Rattle.state.specs.declared.parts.Long.{Long}
use Rattle.state.specs.declared.parts.Anomaly.{Anomaly}

-- 3518-3519
unfoldable pub held : Float → Float
held tem5 = cond (le (dec 95 2) (abs_of tem5)) (cond (lt (dec 0 0) tem5) (dec 95 2) (neg (dec 95 2))) tem5

-- 3514-3520: the round of number ktr, from eo1
unfoldable pub corrected : Long → Float → ℕ → Anomaly
corrected long eo1 ktr =
    let axnl = long.axnl in
    let aynl = long.aynl in
    let sineo1 = sin_of eo1 in
    let coseo1 = cos_of eo1 in
    let tem5 = dec 1 0 ⊖ coseo1 ⊗ axnl ⊖ sineo1 ⊗ aynl in
    let tem5 = held ((long.u ⊖ aynl ⊗ coseo1 ⊕ axnl ⊗ sineo1 ⊖ eo1) ⊘ tem5) in
    record { eo1 = eo1 ⊕ tem5; tem5 = tem5; sineo1 = sineo1; coseo1 = coseo1; rounds = ktr }

-- 3512, the first test; a NaN fails it
unfoldable pub unsettled : Anomaly → Bool
unsettled anomaly = le (dec 1 12) (abs_of anomaly.tem5)

-- 3512-3522: at most n more rounds, none where the test fails
unfoldable pub solved : ℕ → Bool → Long → Anomaly → Anomaly
solved zero b long anomaly = anomaly
solved (suc n) false long anomaly = anomaly
solved (suc n) true long anomaly = let next = corrected long anomaly.eo1 (anomaly.rounds + 1) in solved n (unsettled next) long next

-- 3507-3509
unfoldable pub begun : Long → Anomaly
begun long = record { eo1 = long.u; tem5 = dec 99999 1; sineo1 = dec 0 0; coseo1 = dec 0 0; rounds = 0 }

unfoldable pub kepler : Long → Anomaly
kepler long = solved 10 (unsettled (begun long)) long (begun long)
