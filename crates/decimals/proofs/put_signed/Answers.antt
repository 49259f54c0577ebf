use Rattle.floats.proofs.Branch.{yes, no}
use Rattle.text.proofs.Pieces.{both, same}
use Rattle.decimals.specs.Fixed.{signed_text}
use borrow.Author.Rules.{rules}
use Rattle.decimals.proofs.put_signed.Goals as goal

pub returns-then-minus : goal.returns-then-minus
unfolding signed_text
returns-then-minus c =
    let q = c in
    let p = q in
    same (yes _ _ _ p.if-minus.true) (both p.put_byte-p.ensures q.put_units.ensures)

pub returns : goal.returns
unfolding signed_text
returns c = same (no _ _ _ c.if-minus.false) c.put_units-2.ensures
