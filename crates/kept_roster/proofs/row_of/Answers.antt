use mathlib.Core.Path.{refl, ap, ◌∙◌}
use lib.ListN.{replicate}
use Rattle.roster.specs.Row.{roster_with}
use Rattle.kept_roster.proofs.Filled.{filled}
use Rattle.kept_roster.proofs.row_of.Goals as goal

pub returns : goal.returns
returns c =
    let b = c.args.roster.now in
    ap (λ row. roster_with b row) c.fill_row.ensures.1 ∙ filled b (replicate 64 0) refl
