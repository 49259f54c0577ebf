use mathlib.Core.Path.{sym, ap}
use lib.Ieee.{Float, round, units, odd, size, span, climb, of_bits, neg}
use lib.Count.{count_trailing_zeros}
use Rattle.elementary.specs.Notation.{◌⊕◌, ◌⊗◌, dec}
use Rattle.instant.specs.Greenwich.{sidereal_of}
use Rattle.instant.proofs.Constants.{rate_is}
use Rattle.instant.proofs.sidereal_seconds.Goals as goal

pub returns : goal.returns
unfolding sidereal_of round units odd size span climb count_trailing_zeros of_bits neg
returns c =
    let t = c.args.tut1 in
    ap (λ (r : Float). neg (dec 62 7) ⊗ t ⊗ t ⊗ t ⊕ dec 93104 6 ⊗ t ⊗ t ⊕ r ⊗ t ⊕ dec 6731054841 5) (sym rate_is)
