use mathlib.Core.Path.{ap}
use mathlib.Core.List.{map}
use lib.ListN.{take}
use Rattle.text.proofs.Pieces.{same}
use Rattle.marked_line.specs.Marked.{visible, part}
use Rattle.marked_line.proofs.Fronts.{tail_least}
use Rattle.marked_line.proofs.put_part.Goals as goal

pub returns : goal.returns
unfolding part
returns c =
    let p = c in
    let a = p.args in
    same (ap (λ s. map visible (take a.n s)) (tail_least a.from p.at_most-a.result a.line.now p.at_most-a.ensures.0)) p.put_front.ensures
