use Rattle.std.proofs.Common.{◌≡◌, refl, sym, ap, ◌∙◌, arith}
use Rattle.award.specs.Plan.{first}
use Rattle.award.proofs.First.{turn, found}
use Rattle.award.proofs.first_of.Goals as goal

pub loop-k-init : goal.loop-k-init
unfolding first
loop-k-init g c = λ fault tells. refl

pub returns-then-fault : goal.returns-then-fault
returns-then-fault g c = λ fault tells.
    let k = c.loop-k.k in
    let e = tells k c.fault.result c.loop-k-test.true c.fault.ensures in
    sym (found fault k _ c.loop-k-test.true (c.loop-k.invariant fault tells) (sym e ∙ c.if-fault.true))

pub loop-k-preserved : goal.loop-k-preserved
loop-k-preserved g c = λ fault tells.
    let k = c.loop-k.k in
    let e = tells k c.fault.result c.loop-k-test.true c.fault.ensures in
    turn fault k (c.loop-k.invariant fault tells) (sym e ∙ c.if-fault.false)

pub returns : goal.returns
returns g c = λ fault tells.
    let e : c.loop-k.k ≡ c.args.n = omega arith in
    sym e ∙ sym (c.loop-k.invariant fault tells) ∙ ap (first fault) e
