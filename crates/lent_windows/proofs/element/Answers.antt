use Rattle.std.proofs.Common.{◌≡◌, ap, ◌∙◌, slice_get, rules}
use Rattle.std.specs.Option.{unwrap_or}
use Rattle.std.proofs.lemmas.Option.{gets, unwrap_or-slice_get}
use lib.Ieee.{nan, round, units, odd, size, span, climb, of_bits, neg, div}
use lib.Count.{count_trailing_zeros}
use Rattle.lent_windows.proofs.element.Goals as goal

-- past the end there is no number
pub returns : goal.returns
unfolding round units odd size span climb count_trailing_zeros of_bits neg div
returns c =
    let found : c.copied.result ≡ slice_get c.args.station.now c.args.i = search (rules, gets) in
    c.unwrap_or.ensures ∙ ap (λ o. unwrap_or o nan) found ∙ unwrap_or-slice_get c.args.station.now c.args.i nan
