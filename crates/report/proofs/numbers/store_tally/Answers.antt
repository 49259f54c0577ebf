use borrow.Author.Tests.{lt-ltb, le-ltb}
use Rattle.report.specs.Numbers.{store_refusal, stored_over}
use Rattle.report.proofs.numbers.store_tally.Goals as goal

pub returns-then-counts-lt17 : goal.returns-then-counts-lt17
unfolding store_refusal stored_over
returns-then-counts-lt17 c =
    let h = lt-ltb _ _ c.if-counts-lt17.true in
    record { value = rw h; counts_after = rw h }

pub returns : goal.returns
unfolding store_refusal stored_over
returns c =
    let h = le-ltb _ _ c.if-counts-lt17.false in
    record { value = rw h; counts_after = rw (h, ← c.numbers_of.ensures) c.put_front.ensures }
