use native.Mathlib.Nat.{pow-le-pow_right, zero-lt-suc}
use native.Mathlib.Omega.{arith}
use Rattle.text.proofs.Pieces.{same}
use Rattle.decimals.proofs.Spelled.{shown_is, shown_text}
use Rattle.decimals.proofs.put_shown.Goals as goal

pub overflow_cast-places : goal.overflow_cast-places
overflow_cast-places c = let h = shown_is c.args.places c.args.x c.requires in omega arith

pub pow-ten-requires : goal.pow-ten-requires
pow-ten-requires c =
    let h = shown_is c.args.places c.args.x c.requires in
    omega (arith, pow-le-pow_right {n = 10} (zero-lt-suc 9) {i = c.args.places} {j = 9} h.most)

pub units_of-n-requires : goal.units_of-n-requires
units_of-n-requires c = let h = shown_is c.args.places c.args.x c.requires in (h.range, h.least, h.most, c.pow-ten.ensures)

pub put_signed-requires : goal.put_signed-requires
put_signed-requires c =
    let h = shown_is c.args.places c.args.x c.requires in (h.most, c.pow-ten.ensures, c.units_of-n.ensures.below)

pub returns : goal.returns
returns c =
    same (shown_text c.args.places c.args.x c.has_minus-minus.result _ c.requires c.has_minus-minus.ensures c.units_of-n.ensures.sum) c.put_signed.ensures
