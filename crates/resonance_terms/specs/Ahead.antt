-- aonv begun ahead of the rest of dsinit, where there is resonance that asks for it, which serves speed alone. proofs/AheadSame: it comes to the same.
-- Definitions only.
use Rattle.std.specs.Prelude.{cond, ◌||◌, Float}
use Rattle.elementary.specs.Notation.{dec}
use Rattle.resonance_terms.specs.Dsinit.{one_day, half_day, aonv_of}

-- of the mean motion and the eccentricity
unfoldable pub aonv_ahead : Float → Float → Float
aonv_ahead nm em = cond (half_day nm em || one_day nm) (aonv_of nm) (dec 0 0)
