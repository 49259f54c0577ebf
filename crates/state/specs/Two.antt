-- Two times at once, step by step, as long as neither is refused; they serve speed alone. proofs/Two: what they come to is what each time comes to by
-- itself. Definitions only.
use Rattle.std.specs.Prelude.{ℕ, cond, ◌||◌, None, Option, Result, Some}
use Rattle.instant.specs.declared.Minutes.{Minutes}
use Rattle.satellite.specs.declared.NearEarth.{NearEarth}
use Rattle.state.specs.declared.parts.Secular.{Secular}
use Rattle.state.specs.declared.parts.Mean.{Mean}
use Rattle.state.specs.declared.parts.Long.{Long}
use Rattle.state.specs.declared.parts.Anomaly.{Anomaly}
use Rattle.state.specs.declared.parts.Plane.{Plane}
use Rattle.state.specs.declared.parts.Short.{Short}
use Rattle.state.specs.declared.parts.Ready.{Ready}
use Rattle.state.specs.declared.parts.Solved.{Solved}
use Rattle.state.specs.declared.answer.State.{State}
use Rattle.state.specs.declared.answer.Refusal.{Refusal}
use Rattle.state.specs.Secular.{secular, no_motion, outside, angles}
use Rattle.state.specs.Kepler.{corrected, unsettled, kepler}
use Rattle.state.specs.Periodics.{long_period, latus, negative_latus, short_period, decayed}
use Rattle.state.specs.Orientation.{state}
use Rattle.state.specs.Sgp4.{given}
use Rattle.state.specs.Ahead.{ahead_of, plane_from}
use Rattle.state.specs.Kept.{mean_from, unperturbed_from}

-- Kepler's equation: the round of number ktr, where one is left to do
unfoldable pub gone_on : Long → Anomaly → ℕ → Anomaly
gone_on long anomaly ktr = cond (unsettled anomaly) (corrected long anomaly.eo1 ktr) anomaly

-- refusal 14 for neither, then orientation, position and velocity
unfoldable pub placed_two : Short → ℕ → Short → ℕ → Option ((Result (State × ℕ) Refusal) × (Result (State × ℕ) Refusal))
placed_two s k u n = cond (decayed s || decayed u) None (Some ((given (state s) k), (given (state u) n)))

unfoldable pub plane_solved : Solved → Plane
plane_solved a = plane_from a.q a.e a.am a.l a.a

-- refusal 13 for neither, then the short-period terms
unfoldable pub shortened_two : Solved → Solved → Option ((Result (State × ℕ) Refusal) × (Result (State × ℕ) Refusal))
shortened_two a b =
    cond (negative_latus a.l || negative_latus b.l) None
    (placed_two
    (short_period a.p a.a.nm a.k (plane_solved a))
    a.e.rounds
    (short_period b.p b.a.nm b.k (plane_solved b))
    b.e.rounds)

-- Kepler's equation, solved
unfoldable pub solved_of : Ready → Solved
solved_of a =
    let q = long_period a.p a.am a.k in
    let l = latus q a.am in
    record { p = a.p; am = a.am; k = a.k; q = q; e = kepler q; l = l; a = ahead_of a.am l }

-- from the long-period terms on
unfoldable pub periodics_two : Ready → Ready → Option ((Result (State × ℕ) Refusal) × (Result (State × ℕ) Refusal))
periodics_two a b = shortened_two (solved_of a) (solved_of b)

unfoldable pub pair_of : Option (Ready × Ready) → Option ((Result (State × ℕ) Refusal) × (Result (State × ℕ) Refusal))
pair_of (Some (a, b)) = periodics_two a b
pair_of None = None

-- a near-Earth satellite's mean elements, made ready
unfoldable pub ready_of : NearEarth → Secular → Mean → Ready
ready_of s g m = record { p = unperturbed_from s m.em (angles s.elements.no g); am = m.am; k = s.terms }

-- refusal 11 for neither
unfoldable pub averaged_two : NearEarth → Secular → Mean → Secular → Mean → Option (Ready × Ready)
averaged_two s g m g2 m2 = cond (outside m || outside m2) None (Some ((ready_of s g m), (ready_of s g2 m2)))

-- refusal 10 for neither
unfoldable pub ready_two : NearEarth → Minutes → Minutes → Option (Ready × Ready)
ready_two s t t2 =
    let g = secular s t in
    let g2 = secular s t2 in
    cond (no_motion s.elements.no) None
    (averaged_two s g (mean_from s.kept.ao s.elements.ecco g) g2 (mean_from s.kept.ao s.elements.ecco g2))
