use mathlib.Core.List.{append_assoc}
use Rattle.text.proofs.Pieces.{both, same}
use Rattle.compare.proofs.Places.{part}
use Rattle.compare.proofs.put_place.Goals as goal

pub returns : goal.returns
returns c =
    simp append_assoc
    (both c.put_each-p.ensures (both c.put_byte-p.ensures (both (same (part c.args.b.now c.args.i) c.put_each-p-2.ensures) c.put_byte.ensures)))
