use mathlib.Core.Path.{sym, ap, ◌∙◌}
use borrow.Author.Tests.{lt-ltb, le-ltb}
use mathlib.Core.Bool.{Bool, cond}
use Rattle.answers.specs.Answer.{answer}
use Rattle.saddlekerf_profile.specs.Requests.{short_list}
use Rattle.saddlekerf_profile.proofs.lent.short_list.Goals as goal

pub returns-then-n-gt1024 : goal.returns-then-n-gt1024
unfolding short_list
returns-then-n-gt1024 c =
    c.answer.ensures ∙ sym (ap (λ (b : Bool). answer (cond b 18 17) 0 0 0) (lt-ltb _ _ c.if-n-gt1024.true))

pub returns : goal.returns
unfolding short_list
returns c =
    c.answer-2.ensures ∙ sym (ap (λ (b : Bool). answer (cond b 18 17) 0 0 0) (le-ltb _ _ c.if-n-gt1024.false))
