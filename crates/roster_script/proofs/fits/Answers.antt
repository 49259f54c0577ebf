use Prim.Native.Nat.{ℕ, ◌+◌, ◌-◌, ◌*◌}
use mathlib.Core.Path.{sym, ap, ◌∙◌}
use borrow.Author.Tests.{ltb-true, ltb-false}
use lib.Dec.{leb, ltb}
use lib.ListN.{drop}
use Rattle.roster_script.specs.Script.{needed}
use Rattle.roster_script.proofs.Scripts.{fits_not, fits_more, fits_all}
use Rattle.roster_script.proofs.fits.Goals as goal

pub returns-then-exceeds : goal.returns-then-exceeds
returns-then-exceeds c =
    let a = c.args in
    fits_not a.calls.now c.loop-j.j c.loop-j-test.true a.room c.loop-j.left c.loop-j.invariant (ltb-true _ _ (sym c.exceeds.ensures ∙ c.if-exceeds.true))

pub lines_taken-left-requires : goal.lines_taken-left-requires
lines_taken-left-requires c = ltb-false _ _ (sym c.exceeds.ensures ∙ c.if-exceeds.false)

pub overflow_sub-left : goal.overflow_sub-left
overflow_sub-left c =
    let left = c.loop-j.left in
    let h = ap (ltb left) c.lines_taken-left.ensures ∙ sym c.exceeds.ensures ∙ c.if-exceeds.false in
    ltb-false left c.lines_taken-left.result h

pub loop-j-preserved : goal.loop-j-preserved
loop-j-preserved c =
    let a = c.args in
    fits_more a.calls.now c.loop-j.j c.loop-j-test.true a.room c.loop-j.left c.loop-j.invariant (ltb-false _ _ (sym c.exceeds.ensures ∙ c.if-exceeds.false))
    ∙ ap (λ (n : ℕ). leb (needed (drop (3 * (c.loop-j.j + 1)) a.calls.now)) (c.loop-j.left - n)) (sym c.lines_taken-left.ensures)

pub returns : goal.returns
returns c =
    let a = c.args in
    fits_all a.calls.now c.loop-j.j a.room c.loop-j.left c.loop-j.invariant c.loop-j-test.false
