use mathlib.Core.Path.{sym, ap, ◌∙◌}
use mathlib.Core.Bool.{not}
use Rattle.award.proofs.Rules.{elsewhere, first_before, second_tells}
use Rattle.award.proofs.is_clash.Goals as goal

pub returns-then-p-q : goal.returns-then-p-q
returns-then-p-q c = elsewhere _ _ _ c.if-p-q.true

pub returns-then-is_before : goal.returns-then-is_before
returns-then-is_before c = first_before _ _ _ c.if-p-q.false (sym c.is_before.ensures ∙ c.if-is_before.true)

pub returns : goal.returns
returns c =
    ap not c.is_before-2.ensures ∙ second_tells _ _ _ c.if-p-q.false (sym c.is_before.ensures ∙ c.if-is_before.false)
