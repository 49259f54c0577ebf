use borrow.Author.Rules.{rules}
use Rattle.decimals.proofs.Spelled.{of_nine}
use Rattle.decimals.proofs.put_places.Goals as goal

pub returns : goal.returns
returns c =
    let d = c in
    let s = d in
    of_nine s.args.width s.args.n s.requires d.nine_digits-digits.ensures c.put_bytes.ensures
