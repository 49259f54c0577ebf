use borrow.Author.Tests.{lt-ltb, le-ltb}
use Rattle.requests.specs.Lists.{list_refusal}
use Rattle.requests.proofs.list_refusal.Goals as goal

pub returns-then-n-gt1024 : goal.returns-then-n-gt1024
unfolding list_refusal
returns-then-n-gt1024 c = simp (lt-ltb _ _ c.if-n-gt1024.true)

pub returns-then-a-n : goal.returns-then-a-n
unfolding list_refusal
returns-then-a-n c = simp (le-ltb _ _ c.if-n-gt1024.false, lt-ltb _ _ c.if-a-n.true)

pub returns-then-b-n : goal.returns-then-b-n
unfolding list_refusal
returns-then-b-n c = simp (le-ltb _ _ c.if-n-gt1024.false, le-ltb _ _ c.if-a-n.false, lt-ltb _ _ c.if-b-n.true)

pub returns-then-c-n : goal.returns-then-c-n
unfolding list_refusal
returns-then-c-n c =
    simp (le-ltb _ _ c.if-n-gt1024.false, le-ltb _ _ c.if-a-n.false, le-ltb _ _ c.if-b-n.false, lt-ltb _ _ c.if-c-n.true)

pub returns : goal.returns
unfolding list_refusal
returns c =
    simp (le-ltb _ _ c.if-n-gt1024.false, le-ltb _ _ c.if-a-n.false, le-ltb _ _ c.if-b-n.false, le-ltb _ _ c.if-c-n.false)
