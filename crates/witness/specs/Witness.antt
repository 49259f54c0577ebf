-- Document 01's stride cases ("resonant, minutes 1440, 2880, ..") and the resonant part of demand 3 speak of a satellite that opens resonant.
-- Such satellites are: here is one of each kind, of the published test set. Definitions only.
use Rattle.std.specs.Prelude.{ℕ, ◌≡◌, List, Ok}
use Rattle.text.specs.Output.{bytes}
use Rattle.satellite.specs.declared.Resonance.{Resonance}
use Rattle.satellite.specs.declared.Resonance.TheVariants as kinds
use Rattle.opening.specs.declared.opening.Satellite.{Satellite}
use Rattle.opening.specs.Opening.{open_pair_of}
use Rattle.sgp4.specs.Sgp4.{integrator_of}
use Rattle.sequences.specs.Edges.{Each, edges}

pub record Pair : Type 0 where
  pub line1 : List ℕ
  pub line2 : List ℕ

-- ITALSAT 2, a day's period
abbrev pub italsat : Pair
italsat =
    record {
      line1 = bytes "1 24208U 96044A   06177.04061740 -.00000094  00000-0  10000-3 0  1600";
      line2 = bytes "2 24208   3.8536  80.0121 0026640 311.0977  48.3000  1.00778054 36119";
    }

-- MOLNIYA 2-14, half a day's period, eccentricity 0.69
abbrev pub molniya : Pair
molniya =
    record {
      line1 = bytes "1 08195U 75081A   06176.33215444  .00000099  00000-0  11873-3 0   813";
      line2 = bytes "2 08195  64.1586 279.0717 6877146 264.7651  20.2257  2.00491383225656";
    }

-- 002's irez: 1 for one-day resonance, 2 for half-day, 0 for none
unfoldable pub irez : Resonance → ℕ
irez kinds.None = 0
irez (kinds.OneDay d) = 1
irez (kinds.HalfDay h) = 2

-- the pair is read and opened, its satellite has that kind of resonance, and every stride case of document 01 holds of it
pub record Opens (p : Pair) (kind : ℕ) : Type 0 where
  pub satellite : Satellite
  pub opened : open_pair_of p.line1 p.line2 ≡ Ok satellite
  pub resonance : irez (integrator_of satellite.model).resonance ≡ kind
  pub strides : Each satellite edges

-- the claim (`witnessed` of proofs/Witness)
abbrev pub Witnessed : Type 0
Witnessed = Opens italsat 1 × Opens molniya 2
