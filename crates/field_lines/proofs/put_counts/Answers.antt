use Rattle.text.proofs.Pieces.{both, length_put}
use Rattle.text.specs.Output.{Put}
use Rattle.field_lines.specs.Lines.{counts_text}
use Rattle.field_lines.proofs.put_counts.Tie as tie
use Rattle.field_lines.proofs.put_counts.Lts as lts
use Rattle.field_lines.proofs.put_counts.Reads as reads
use Rattle.field_lines.proofs.put_counts.Goals as goal

all : (c : (lts.After-slice_known10 tie.the-claims reads.Pre reads.Post)) → let s = c.args in
    Put s.out.now s.at (counts_text s.n s.a s.b) c.put_count.new.out c.put_count.result
unfolding counts_text
all c =
    both c.put_count-p.ensures
    (both c.put_count-p-2.ensures
    (both c.put_count-p-3.ensures
    (both c.put_count-p-4.ensures
    (both c.put_count-p-5.ensures
    (both c.put_count-p-6.ensures
    (both c.put_count-p-7.ensures
    (both c.put_count-p-8.ensures
    (c.put_count.ensures))))))))

pub shape_of-out : goal.shape_of-out
shape_of-out c = length_put (all c.before)

pub returns : goal.returns
returns c = all c.before
