use lib.Ieee.{round, units, odd, size, span, climb, of_bits, neg}
use lib.Count.{count_trailing_zeros}
use mathlib.Core.Path.{sym, ◌∙◌}
use Rattle.profile.proofs.Narrow.{at_perigee, at_deep, at_near}
use Rattle.profile.proofs.opener.above.Goals as goal

pub returns-then-i : goal.returns-then-i
unfolding round units odd size span climb count_trailing_zeros of_bits neg
returns-then-i c = at_perigee _ _ _ _ _ c.if-i.true

pub returns-then-is_deep_space : goal.returns-then-is_deep_space
unfolding round units odd size span climb count_trailing_zeros of_bits neg
returns-then-is_deep_space c = at_deep _ _ _ _ _ c.if-i.false (sym c.is_deep_space.ensures ∙ c.if-is_deep_space.true)

pub returns : goal.returns
unfolding round units odd size span climb count_trailing_zeros of_bits neg
returns c =
    rw (c.checked.ensures, c.near_earth-near.ensures)
    (at_near _ _ _ _ c.if-i.false (sym c.is_deep_space.ensures ∙ c.if-is_deep_space.false))
