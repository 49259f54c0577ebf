-- A position with the derivatives there, handed from one time of a list to the next, which serves speed alone. proofs/Handed: a request that takes no
-- stride leaves both as they are. Definitions only.
use Rattle.std.specs.Prelude.{ℕ, ◌≡◌, Bool, true, false, ◌&&◌, eqb}
use Rattle.elementary.specs.Notation.{dec}
use Rattle.satellite.specs.declared.Integrator.{Integrator}
use Rattle.resonance.specs.declared.place.Side.{Side}
use Rattle.resonance.specs.declared.place.Place.{Place}
use Rattle.resonance.specs.declared.held.Held.{Held}
use Rattle.resonance.specs.Place.{number, resumes, kept, dots_at}

-- a position and its derivatives
unfoldable pub held_at : Integrator → Place → Held
held_at i p = record { place = p; dots = dots_at i p; known = true }

unfoldable pub unknown : Place → Held
unknown p = record { place = p; dots = record { xndt = dec 0 0; xldot = dec 0 0; xnddt = dec 0 0 }; known = false }

-- where derivatives are known they are those of the position, which is one that a request has left
abbrev pub Right : Integrator → Held → Type 0
Right i h = h.known ≡ true → (h ≡ held_at i h.place) × (kept h.place ≡ h.place)

-- a request for m strides on the side d takes none, and the derivatives are known
unfoldable pub stays : Held → Side → ℕ → Bool
stays h d m = h.known && (eqb (number h.place) m && resumes h.place d m)
