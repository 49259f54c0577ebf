use mathlib.Core.Path.{refl}
use Rattle.requests.proofs.Answers.{tested}
use Rattle.requests.proofs.carry.Goals as goal

pub returns-then-stays : goal.returns-then-stays
returns-then-stays c =
    let m = c.before in
    let d = m in
    tested _ _ _ _ _ _ _ _ _ d.integrator_of-i.ensures d.side_of.ensures m.stride_need.ensures c.stays.ensures c.if-stays.true refl

pub returns : goal.returns
returns c =
    let m = c.before in
    let d = m in
    tested _ _ _ _ _ _ _ _ _ d.integrator_of-i.ensures d.side_of.ensures m.stride_need.ensures c.stays.ensures c.if-stays.false c.go_on.ensures
