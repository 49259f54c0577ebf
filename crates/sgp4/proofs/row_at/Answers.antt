use mathlib.Core.Path.{ap, ◌∙◌}
use lib.Ieee.{Float}
use Rattle.sgp4.specs.Kept.{state_from, row_from}
use Rattle.sgp4.specs.Row.{row_of}
use Rattle.sgp4.proofs.row_at.Goals as goal

pub returns : goal.returns
unfolding row_from
returns c =
    let a = c.args in
    c.row_of.ensures ∙ ap row_of (c.state_at.ensures ∙ ap (λ (x : Float). state_from a.model a.p (record { 0 = x })) c.to_minutes.ensures)
