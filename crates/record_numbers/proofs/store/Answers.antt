use mathlib.Core.Path.{refl}
use borrow.Author.Tests.{lt-ltb, le-ltb}
use Rattle.record_numbers.proofs.store.Goals as goal

pub returns-then-fields-lt22 : goal.returns-then-fields-lt22
returns-then-fields-lt22 c =
    let h = lt-ltb _ _ c.if-fields-lt22.true in
    record { value = rw (c.if-not-allowed.false, h); fields_after = refl }

pub returns : goal.returns
returns c =
    let h = le-ltb _ _ c.if-fields-lt22.false in
    record { value = rw (c.if-not-allowed.false, h); fields_after = rw (c.copy_from_slice.ensures.after, c.numbers_of.ensures) }
