use mathlib.Core.Path.{sym, ap, ◌∙◌}
use mathlib.Core.Bool.{Bool, cond}
use lib.Ieee.{Float}
use Rattle.state.specs.Kept.{sgp4_from}
use Rattle.instant.specs.Quantity.{minutes_of}
use Rattle.sgp4.specs.Row.{row_of, refused_row}
use Rattle.profile.specs.Rows.{near_row}
use Rattle.profile.proofs.rows.row_at.Goals as goal

pub returns-then-is_taken : goal.returns-then-is_taken
unfolding near_row
returns-then-is_taken c =
    let row = row_of (sgp4_from c.args.near (record { 0 = minutes_of c.args.t.0 })) in
    c.row_of.ensures ∙ ap row_of (c.sgp4.ensures ∙ ap (λ (x : Float). sgp4_from c.args.near (record { 0 = x })) c.to_minutes.ensures)
    ∙ sym (ap (λ (b : Bool). cond b row (refused_row 33)) (sym c.is_taken.ensures ∙ c.if-is_taken.true))

pub returns : goal.returns
unfolding near_row
returns c =
    let row = row_of (sgp4_from c.args.near (record { 0 = minutes_of c.args.t.0 })) in
    c.refused_row.ensures ∙ sym (ap (λ (b : Bool). cond b row (refused_row 33)) (sym c.is_taken.ensures ∙ c.if-is_taken.false))
