use Rattle.std.proofs.Common.{◌∙◌, ap, length, nat_eq, rules}
use Rattle.std.specs.Option.{unwrap_or}
use Rattle.std.proofs.lemmas.Iterator.{YieldsList-from_slice}
use Rattle.std.proofs.lemmas.Iterator.Search.{position_from_yields_List}
use Rattle.station_text.proofs.Words.{cut_or_end, cut_within}
use Rattle.station_text.proofs.cut_at.Goals as goal

pub returns : goal.returns
returns c =
    let s = c.args.s.now in
    let e = position_from_yields_List (λ b. nat_eq b c.args.mark) _ _ _ c.position.ensures.ran (YieldsList-from_slice s cc) (λ x b q k. search rules) in
    let f = c.unwrap_or.ensures ∙ ap (λ o. unwrap_or o (length s)) e ∙ cut_or_end c.args.mark s in
    (f, rw f (cut_within c.args.mark s))
