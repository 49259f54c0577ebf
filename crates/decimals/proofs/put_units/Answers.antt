use borrow.Author.Rules.{rules}
use Rattle.text.proofs.Pieces.{both, same}
use Rattle.decimals.proofs.Spelled.{units_text_lem}
use Rattle.decimals.proofs.put_units.Goals as goal

pub returns : goal.returns
returns c =
    let q = c in
    let p = q in
    let d = p in
    let s = d in
    same (units_text_lem s.args.width s.args.ten s.args.whole s.args.part s.requires.1 s.requires.2)
    (both d.put_decimal-p.ensures (both p.put_byte-p.ensures q.put_places.ensures))
