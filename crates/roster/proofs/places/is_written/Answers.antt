use mathlib.Core.Path.{refl, sym, ◌∙◌}
use lib.ListN.{replicate}
use Rattle.roster.specs.Roster.{pair_bytes}
use Rattle.roster.proofs.Tests.{same_as}
use Rattle.roster.proofs.Pairs.{whole}
use Rattle.roster.proofs.places.is_written.Goals as goal

pub returns : goal.returns
returns c =
    let e = c.put_pair.ensures ∙ whole (replicate 138 0) c.args.r refl c.requires in
    same_as c.same.result _ c.args.p.now (pair_bytes c.args.r) refl (λ h. c.same.ensures.0 h ∙ e) (λ h. c.same.ensures.1 (h ∙ sym e))
