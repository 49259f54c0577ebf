use Rattle.lent_passes.proofs.Posts.{or_own, or_room_lem}
use Rattle.lent_passes.proofs.short_call.Goals as goal

pub returns-then-refusal-ne0 : goal.returns-then-refusal-ne0
returns-then-refusal-ne0 c = or_own _ _ c.pass_refusal-refusal.ensures c.if-refusal-ne0.true

pub returns : goal.returns
returns c = or_room_lem _ _ c.pass_refusal-refusal.ensures c.if-refusal-ne0.false
