use mathlib.Core.Path.{refl, sym, ◌∙◌}
use Rattle.tle.proofs.Accepted.{accepted_are_legal}
use Rattle.tle.proofs.Judged.{passed}
use Rattle.tle.proofs.Meaning.{passed_up, gone_on_lem}
use Rattle.roster_calls.proofs.Standing.{unread, read}
use Rattle.roster_calls.proofs.lodge.Goals as goal

pub returns-in_err-fields : goal.returns-in_err-fields
returns-in_err-fields c =
    let g = passed_up _ _ c.read_form.ensures c.in_err-fields.was in
    let u = unread c.args.roster.now c.args.row.now c.args.line1.now c.args.line2.now _ _ g refl in
    (passed _ _ c.from_residual.ensures.1 ∙ u.0, u.1, u.2)

pub returns-in_err-r : goal.returns-in_err-r
returns-in_err-r c =
    let g = gone_on_lem _ _ c.read_form.ensures c.in_ok-fields.was c.read_meaning.ensures in
    let u = unread c.args.roster.now c.args.row.now c.args.line1.now c.args.line2.now _ _ g c.in_err-r.was in
    (passed _ _ c.from_residual-in_err-r.ensures.1 ∙ u.0, u.1, u.2)

pub lodge_record-requires : goal.lodge_record-requires
lodge_record-requires c =
    accepted_are_legal c.args.line1.now c.args.line2.now _
    (sym (gone_on_lem _ _ c.read_form.ensures c.in_ok-fields.was c.read_meaning.ensures) ∙ c.in_ok-r.was)

pub returns : goal.returns
returns c =
    read c.args.roster.now c.args.row.now c.args.line1.now c.args.line2.now c.read_meaning.result _ c.lodge_record.result _ _
    (gone_on_lem _ _ c.read_form.ensures c.in_ok-fields.was c.read_meaning.ensures) c.in_ok-r.was c.lodge_record.ensures
