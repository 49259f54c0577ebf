use mathlib.Core.List.{[], ◌∷◌}
use Rattle.text.proofs.Pieces.{front}
use Rattle.listing.proofs.put_piece.Goals as goal

pub returns : goal.returns
returns c =
    let a = c.args in
    front c.piece_size-size.result (a.a ∷ a.b ∷ a.c ∷ []) c.piece_size-size.ensures.1 c.put_bytes.ensures
