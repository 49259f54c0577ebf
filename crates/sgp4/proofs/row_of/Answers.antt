use mathlib.Core.Path.{sym, ap, ◌∙◌}
use Rattle.sgp4.specs.Row.{refused_row, row_of}
use Rattle.sgp4.proofs.row_of.Goals as goal

pub returns-in-Ok : goal.returns-in-Ok
unfolding row_of
returns-in-Ok c = sym (ap row_of c.in-Ok.is)

pub returns-in-Err : goal.returns-in-Err
unfolding row_of
returns-in-Err c =
    c.refused_row.ensures ∙ ap refused_row c.number.ensures ∙ sym (ap row_of c.in-Err.is)
