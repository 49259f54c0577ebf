use mathlib.Core.Path.{ap}
use mathlib.Core.List.{[], ◌∷◌}
use Rattle.text.specs.Output.{line}
use Rattle.text.proofs.Pieces.{both, same}
use Rattle.listing.proofs.put_class.Goals as goal

pub returns : goal.returns
unfolding line
returns c =
    let e = c.letter-b.ensures in
    both c.put_bytes-p.ensures (both (same (ap (λ b. b ∷ []) e) c.put_byte-p.ensures) c.put_byte.ensures)
