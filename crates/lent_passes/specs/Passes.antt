-- The next pass of a satellite in memory that is lent: what `next_pass` gives for the satellite that lies there, as an answer and in the room for it.
-- Definitions only.
use Rattle.std.specs.Prelude.{ℕ, ◌+◌, ◌*◌, Bool, true, false, cond, ◌||◌, List, [], ◌∷◌, eqb, ltb, length, Float, Err, None, Ok, Option, Result, Some}
use Rattle.earth_fixed.specs.Frame.{at}
use Rattle.geodetic.specs.declared.Geodetic.{Geodetic}
use Rattle.passes.specs.declared.Pass.{Pass}
use Rattle.passes.specs.Passes.{pass_refusal, next_pass}
use Rattle.storage.specs.Storage.{too_short, satellite_of}
use Rattle.answers.specs.Answer.{answer}

-- latitude and longitude in degrees, height in metres. An element that is not lent is not a number, and so the station none
abbrev pub geodetic_of : List Float → Geodetic
geodetic_of v = record { latitude = record { 0 = at v 0 }; longitude = record { 0 = at v 1 }; height = record { 0 = at v 2 } }

-- the least elevation in degrees
abbrev pub least_of : List Float → Float
least_of v = at v 3

-- "17", after a call's own refusals: memory that holds no satellite, or a room for fewer than so many numbers
unfoldable pub short : ℕ → List Float → List ℕ → ℕ → Bool
short n ns ms room = ltb room n || too_short (length ns) (length ms)

-- 25 and 26 first
abbrev pub or_room : ℕ → ℕ
or_room r = cond (eqb r 0) 17 r

-- what a call comes to, with a room for so many instants
unfoldable pub passing_held : List Float → List ℕ → List Float → ℕ → ℕ → ℕ → ℕ → Result (Option Pass) ℕ
passing_held ns ms v start step samples room =
    cond (short 4 ns ms room)
    (Err (or_room (pass_refusal (geodetic_of v) (least_of v) step)))
    (next_pass (satellite_of ns ms) (geodetic_of v) (least_of v) start step samples)

-- ── the answer, and the room afterwards ──

abbrev pub bit : Bool → ℕ
bit false = 0
bit true = 1

-- bit 16: there is a pass; 17: it was above at the first sample; 18: it was above at the last. 32-63: the samples left
unfoldable pub pass_answer : Result (Option Pass) ℕ → ℕ
pass_answer (Ok (Some p)) = answer 0 0 (1 + 2 * bit p.begun + 4 * bit p.still) p.left
pass_answer (Ok None) = answer 0 0 0 0
pass_answer (Err r) = answer r 0 0 0

-- at the front of the room: rise, highest point, set, and the instant where the next call goes on
unfoldable pub pass_instants : Result (Option Pass) ℕ → List ℕ
pass_instants (Ok (Some p)) = p.rise.0 ∷ p.highest.0 ∷ p.set.0 ∷ p.next.0 ∷ []
pass_instants (Ok None) = []
pass_instants (Err r) = []
