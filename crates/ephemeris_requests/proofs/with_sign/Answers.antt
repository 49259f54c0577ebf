use Rattle.request_line.proofs.Signs.{sub_fits, minus64, plus64}
use mathlib.Core.Path.{◌∙◌}
use Rattle.ephemeris_requests.proofs.with_sign.Goals as goal

pub overflow_sub-result : goal.overflow_sub-result
overflow_sub-result c = sub_fits c.args.n c.requires

pub returns-then-minus : goal.returns-then-minus
returns-then-minus c = minus64 c.args.n c.requires ∙ rw c.if-minus.true

pub returns : goal.returns
returns c = plus64 c.args.n c.requires ∙ rw c.if-minus.false
