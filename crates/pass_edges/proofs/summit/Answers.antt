use Rattle.pass_edges.proofs.Ended.{summit_yes, summit_no}
use Rattle.pass_edges.proofs.summit.Goals as goal

pub returns-then-sine-b : goal.returns-then-sine-b
returns-then-sine-b c =
    summit_yes _ _ _ _ _ _ _ _ _ c.earlier-lo.ensures c.later-hi.ensures c.climbed-m.ensures c.sine_at-sine.ensures c.if-sine-b.true

pub returns : goal.returns
returns c =
    summit_no _ _ _ _ _ _ _ _ _ c.earlier-lo.ensures c.later-hi.ensures c.climbed-m.ensures c.sine_at-sine.ensures c.if-sine-b.false
