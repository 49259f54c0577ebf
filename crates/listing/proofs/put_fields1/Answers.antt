use mathlib.Core.Path.{ap}
use native.Mathlib.Omega.{arith}
use Rattle.text.specs.Output.{Put, line, signed, bytes}
use Rattle.listing.specs.Listing.{fields1}
use Rattle.text.proofs.Pieces.{both, same, length_put}
use Rattle.text.proofs.Signed.{steady}
use Rattle.listing.proofs.put_fields1.Tie as tie
use Rattle.listing.proofs.put_fields1.Lts as lts
use Rattle.listing.proofs.put_fields1.Reads as reads
use Rattle.listing.proofs.put_fields1.Goals as goal

all : (c : (lts.After-slice_known10 tie.the-claims reads.Pre reads.Post)) → let s = c.args in
    Put s.out.now s.at (fields1 s.r) c.put_line.new.out c.put_line.result
unfolding fields1
all c =
    let r = c.args.r in
    both c.put_line-p.ensures
    (both c.put_class-p.ensures
    (both c.put_designator_line-p.ensures
    (both c.put_epoch-p.ensures
    (both (same (ap (λ z. line (bytes "ndot ") (signed z)) (steady r.ndot (record { sfits = omega (arith, c.struct_told-1.given) })))
    c.put_signed_line-p.ensures)
    (both c.put_scaled_line-p.ensures
    (both c.put_scaled_line-p-2.ensures
    (both c.put_line-p-2.ensures
    c.put_line.ensures)))))))

pub shape_of-out : goal.shape_of-out
shape_of-out c = length_put (all c.before)

pub returns : goal.returns
returns c = all c.before
