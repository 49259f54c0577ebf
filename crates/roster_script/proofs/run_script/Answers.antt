use borrow.Author.Tests.{leb-true}
use mathlib.Core.Path.{sym, ◌∙◌}
use Rattle.roster_script.proofs.Posts.{short_text, short_room, done}
use Rattle.roster_script.proofs.run_script.Goals as goal

pub returns-then-not-fits : goal.returns-then-not-fits
returns-then-not-fits c =
    let a = c.args in
    short_text a.roster.now a.row.now a.calls.now a.text.now a.answers.now (sym c.fits.ensures ∙ c.if-not-fits.true)

pub returns-then-answers-calls : goal.returns-then-answers-calls
returns-then-answers-calls c =
    let a = c.args in
    short_room a.roster.now a.row.now a.calls.now a.text.now a.answers.now (sym c.fits.ensures ∙ c.if-not-fits.false) c.if-answers-calls.true

pub run_all-requires : goal.run_all-requires
run_all-requires c = (leb-true _ _ (sym c.fits.ensures ∙ c.if-not-fits.false), c.if-answers-calls.false)

pub returns : goal.returns
returns c =
    let a = c.args in
    done a.roster.now a.row.now a.calls.now a.text.now a.answers.now c.run_all.new.roster c.run_all.new.row c.run_all.new.answers
    (sym c.fits.ensures ∙ c.if-not-fits.false) c.if-answers-calls.false c.run_all.ensures
