use Rattle.request_line.proofs.Reading.{digit_ok, digit_above, digit_below}
use borrow.Author.Tests.{le-leb, lt-leb}
use Rattle.request_line.proofs.after_other.Goals as goal

pub returns-then-b-le57 : goal.returns-then-b-le57
returns-then-b-le57 c =
    let a = c.args in
    digit_ok a.t a.b _ (le-leb _ _ c.if-b-ge48.true) (le-leb _ _ c.if-b-le57.true) c.grown-value.ensures

pub returns-then-b-ge48 : goal.returns-then-b-ge48
returns-then-b-ge48 c =
    let i = c in
    let a = i.args in
    digit_above a.t _ a.b c.fault.ensures (le-leb _ _ i.if-b-ge48.true) (lt-leb _ _ i.if-b-le57.false)

pub returns : goal.returns
returns c =
    let i = c in let a = i.args in digit_below a.t _ a.b c.fault-2.ensures (lt-leb _ _ i.if-b-ge48.false)
