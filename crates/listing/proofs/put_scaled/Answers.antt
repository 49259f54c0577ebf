use mathlib.Core.Path.{ap}
use native.Mathlib.Omega.{arith}
use Rattle.text.specs.Output.{signed}
use Rattle.listing.specs.Listing.{scaled_text}
use Rattle.text.proofs.Pieces.{both, same}
use Rattle.text.proofs.Signed.{steady}
use Rattle.listing.proofs.put_scaled.Goals as goal

pub returns : goal.returns
unfolding scaled_text
returns c =
    let v = c.args.v in
    both (same (ap signed (steady v.mantissa (record { sfits = omega (arith, c.struct_told-1.given) }))) c.put_signed-p.ensures)
    (both c.put_byte-p.ensures
    (same (ap signed (steady v.exponent (record { sfits = omega (arith, c.struct_told-2-1.given) }))) c.put_signed.ensures))
