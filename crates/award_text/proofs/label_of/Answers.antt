use mathlib.Core.Path.{sym, ◌∙◌}
use Rattle.award_text.specs.Text.{label_of}
use borrow.Author.Rules.{rules}
use Rattle.award_text.proofs.label_of.Goals as goal

pub returns-then-begins : goal.returns-then-begins
unfolding label_of
returns-then-begins c = (simp (sym c.begins.ensures.0 ∙ c.if-begins.true), c.begins.ensures.1 c.if-begins.true)

pub returns-then-begins-2 : goal.returns-then-begins-2
unfolding label_of
returns-then-begins-2 c =
    (simp (sym c.begins.ensures.0 ∙ c.if-begins.false, sym c.begins-2.ensures.0 ∙ c.if-begins-2.true), c.begins-2.ensures.1 c.if-begins-2.true)

pub returns-then-begins-3 : goal.returns-then-begins-3
unfolding label_of
returns-then-begins-3 c =
    (simp (sym c.begins.ensures.0 ∙ c.if-begins.false, sym c.begins-2.ensures.0 ∙ c.if-begins-2.false, sym c.begins-3.ensures.0 ∙ c.if-begins-3.true), c.begins-3.ensures.1 c.if-begins-3.true)

pub returns-then-begins-4 : goal.returns-then-begins-4
unfolding label_of
returns-then-begins-4 c =
    (simp (sym c.begins.ensures.0 ∙ c.if-begins.false, sym c.begins-2.ensures.0 ∙ c.if-begins-2.false, sym c.begins-3.ensures.0 ∙ c.if-begins-3.false, sym c.begins-4.ensures.0 ∙ c.if-begins-4.true), c.begins-4.ensures.1 c.if-begins-4.true)

pub returns : goal.returns
unfolding label_of
returns c =
    (simp (sym c.begins.ensures.0 ∙ c.if-begins.false, sym c.begins-2.ensures.0 ∙ c.if-begins-2.false, sym c.begins-3.ensures.0 ∙ c.if-begins-3.false, sym c.begins-4.ensures.0 ∙ c.if-begins-4.false), search rules)
