use Rattle.arctangent.specs.Angle.{arctan}
use Rattle.arctangent.proofs.pairs.small_arctans.Goals as goal

pub returns : goal.returns
unfolding arctan
returns c =
    let h = c.before.before in (
      simp (c.before.arctan_series-first.ensures, h.before.halve-h-2.ensures, h.before.before.before.halve-h.ensures),
      simp (c.arctan_series-second.ensures, h.halve-h2-2.ensures, h.before.before.halve-h2.ensures),
    )
