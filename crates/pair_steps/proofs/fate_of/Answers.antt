use mathlib.Core.Path.{sym, ap, ◌∙◌}
use mathlib.Core.Bool.{cond}
use Rattle.pair_lines.specs.declared.Remark.TheVariants as remark
use Rattle.pair_steps.specs.declared.Fate.TheVariants.{Waits, Completes, Alone}
use Rattle.pair_steps.specs.Fate.{fate_of}
use Rattle.pair_steps.proofs.fate_of.Goals as goal

pub returns-then-waiting : goal.returns-then-waiting
unfolding fate_of
returns-then-waiting c =
    let s = c.args in
    sym (ap (λ x. fate_of s.waiting x) c.in-Two.is ∙ ap (λ w. cond w Completes (Alone remark.NoFirst)) c.if-waiting.true)

pub returns-then-waiting-2 : goal.returns-then-waiting-2
unfolding fate_of
returns-then-waiting-2 c =
    let s = c.args in
    sym (ap (λ x. fate_of s.waiting x) c.in-Whole.is ∙ ap (λ w. cond w Completes Waits) c.if-waiting-2.true)

pub returns-then-waiting-3 : goal.returns-then-waiting-3
unfolding fate_of
returns-then-waiting-3 c =
    let s = c.args in
    sym (ap (λ x. fate_of s.waiting x) c.in-Other.is ∙ ap (λ w. cond w Completes (Alone remark.Name)) c.if-waiting-3.true)

pub returns-in-Blank : goal.returns-in-Blank
unfolding fate_of
returns-in-Blank c = sym (ap (λ x. fate_of c.args.waiting x) c.in-Blank.is)

pub returns-in-One : goal.returns-in-One
unfolding fate_of
returns-in-One c = sym (ap (λ x. fate_of c.args.waiting x) c.in-One.is)

pub returns-else-waiting : goal.returns-else-waiting
unfolding fate_of
returns-else-waiting c =
    let s = c.args in
    sym (ap (λ x. fate_of s.waiting x) c.in-Two.is ∙ ap (λ w. cond w Completes (Alone remark.NoFirst)) c.if-waiting.false)

pub returns-else-waiting-2 : goal.returns-else-waiting-2
unfolding fate_of
returns-else-waiting-2 c =
    let s = c.args in
    sym (ap (λ x. fate_of s.waiting x) c.in-Whole.is ∙ ap (λ w. cond w Completes Waits) c.if-waiting-2.false)

pub returns-else-waiting-3 : goal.returns-else-waiting-3
unfolding fate_of
returns-else-waiting-3 c =
    let s = c.args in
    sym (ap (λ x. fate_of s.waiting x) c.in-Other.is ∙ ap (λ w. cond w Completes (Alone remark.Name)) c.if-waiting-3.false)
