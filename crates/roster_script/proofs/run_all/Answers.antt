use native.Mathlib.Omega.{arith}
use Rattle.roster_script.specs.Total.{lent}
use Rattle.roster_script.proofs.Scripts.{along_none, lines_there, along_more, along_done}
use Rattle.roster_script.proofs.run_all.Goals as goal

pub loop-j-init : goal.loop-j-init
loop-j-init c =
    along_none (lent c.args.roster.now c.args.row.now) c.args.calls.now c.args.text.now c.args.answers.now c.requires.0

pub step-requires : goal.step-requires
step-requires c =
    let a = c.args in
    lines_there (lent a.roster.now a.row.now) a.calls.now a.text.now a.answers.now (lent c.loop-j.roster c.loop-j.row) c.loop-j.answers c.loop-j.at c.loop-j.j c.loop-j.invariant c.loop-j-test.true

pub bounds-answers-j : goal.bounds-answers-j
bounds-answers-j c = omega (arith, c.loop-j.invariant.room, c.requires.1, c.loop-j-test.true)

pub lines_taken-at-requires : goal.lines_taken-at-requires
lines_taken-at-requires c =
    let a = c.args in
    let h = lines_there (lent a.roster.now a.row.now) a.calls.now a.text.now a.answers.now (lent c.loop-j.roster c.loop-j.row) c.loop-j.answers c.loop-j.at c.loop-j.j c.loop-j.invariant c.loop-j-test.true in
    omega (arith, h)

pub overflow_add-at : goal.overflow_add-at
overflow_add-at c =
    let a = c.args in
    let h = lines_there (lent a.roster.now a.row.now) a.calls.now a.text.now a.answers.now (lent c.loop-j.roster c.loop-j.row) c.loop-j.answers c.loop-j.at c.loop-j.j c.loop-j.invariant c.loop-j-test.true in
    record { fits = omega (arith, c.lines_taken-at.ensures, h) }

pub loop-j-preserved : goal.loop-j-preserved
loop-j-preserved c =
    let a = c.args in
    along_more (lent a.roster.now a.row.now) a.calls.now a.text.now a.answers.now (lent c.loop-j.roster c.loop-j.row) c.loop-j.answers c.loop-j.at c.loop-j.j c.loop-j.invariant c.loop-j-test.true
    c.step.result c.lines_taken-at.result (lent c.step.new.roster c.step.new.row) c.step.ensures c.step.auto.roster c.step.auto.row
    c.lines_taken-at.ensures (omega (arith, c.loop-j.invariant.room, c.requires.1, c.loop-j-test.true))

pub returns : goal.returns
returns c =
    let a = c.args in
    along_done (lent a.roster.now a.row.now) a.calls.now a.text.now a.answers.now (lent c.loop-j.roster c.loop-j.row) c.loop-j.answers c.loop-j.at c.loop-j.j c.loop-j.invariant c.loop-j-test.false
