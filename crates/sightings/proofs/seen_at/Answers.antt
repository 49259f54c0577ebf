use mathlib.Core.Path.{sym, ap, ◌∙◌}
use lib.Ieee.{round, units, odd, size, span, climb, of_bits, neg}
use lib.Count.{count_trailing_zeros}
use Rattle.sightings.specs.Sightings.{seen_since, seen_at}
use Rattle.sightings.proofs.seen_at.Goals as goal

pub returns-in-Some : goal.returns-in-Some
unfolding seen_since seen_at
returns-in-Some c =
    let f = seen_since c.args.site c.args.satellite c.args.t.0 in
    c.seen_since.ensures ∙ sym (ap f c.in-Some.is) ∙ ap f c.since-elapsed.ensures

pub returns-in-None : goal.returns-in-None
unfolding seen_since seen_at round units odd size span climb count_trailing_zeros of_bits neg
returns-in-None c =
    let f = seen_since c.args.site c.args.satellite c.args.t.0 in
    sym (ap f c.in-None.is) ∙ ap f c.since-elapsed.ensures
