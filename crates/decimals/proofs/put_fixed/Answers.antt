use mathlib.Core.Path.{sym, ◌∙◌}
use borrow.Author.Rules.{rules}
use Rattle.text.proofs.Pieces.{same}
use Rattle.decimals.proofs.Spelled.{other_text}
use Rattle.decimals.proofs.put_fixed.Goals as goal

pub put_shown-requires : goal.put_shown-requires
put_shown-requires c = let i = c in sym i.is_shown.ensures ∙ i.if-is_shown.true

pub returns : goal.returns
returns c =
    let p = c in
    let i = p in
    let s = i in
    same (other_text s.args.places s.args.x (sym i.is_shown.ensures ∙ i.if-is_shown.false)) p.put_byte.ensures
