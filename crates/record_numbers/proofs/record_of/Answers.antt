use mathlib.Core.Path.{sym, ap, ◌∙◌}
use borrow.Author.Tests.{lt-ltb, le-ltb}
use Rattle.record_numbers.specs.Numbers.{is_class, given_of}
use Rattle.record_numbers.proofs.record_of.Goals as goal

pub returns-then-fields-lt22 : goal.returns-then-fields-lt22
unfolding given_of
returns-then-fields-lt22 c = simp (lt-ltb _ _ c.if-fields-lt22.true)

pub returns-then-not-is_class : goal.returns-then-not-is_class
unfolding given_of
returns-then-not-is_class c =
    let e = sym (c.is_class.ensures ∙ ap is_class c.byte_at.ensures) ∙ c.if-not-is_class.true in
    simp (le-ltb _ _ c.if-fields-lt22.false, e)

pub returns : goal.returns
unfolding given_of
returns c =
    let e = sym (c.is_class.ensures ∙ ap is_class c.byte_at.ensures) ∙ c.if-not-is_class.false in
    simp (le-ltb _ _ c.if-fields-lt22.false, e, c.record_at.ensures)
