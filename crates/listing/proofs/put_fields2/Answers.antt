use Rattle.text.specs.Output.{Put}
use Rattle.listing.specs.Listing.{fields2}
use Rattle.text.proofs.Pieces.{both, length_put}
use Rattle.listing.proofs.put_fields2.Tie as tie
use Rattle.listing.proofs.put_fields2.Lts as lts
use Rattle.listing.proofs.put_fields2.Reads as reads
use Rattle.listing.proofs.put_fields2.Goals as goal

all : (c : (lts.After-slice_known8 tie.the-claims reads.Pre reads.Post)) → let l1 = c.before.before.before.before.before.before.before.before.before.before.before.before.before.before.before.before.before.before.before.before.before.before.before.before.before.before.before.before.before.before.before.before in
    Put c.args.out.now c.args.at (fields2 c.args.r) c.put_line.new.out c.put_line.result
unfolding fields2
all c =
    let l1 = c in
    both c.put_line-p.ensures
    (both c.put_line-p-2.ensures
    (both c.put_line-p-3.ensures
    (both c.put_line-p-4.ensures
    (both c.put_line-p-5.ensures
    (both c.put_line-p-6.ensures
    c.put_line.ensures)))))

pub shape_of-out : goal.shape_of-out
shape_of-out c = length_put (all c.before)

pub returns : goal.returns
returns c = all c.before
