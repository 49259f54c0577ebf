use mathlib.Core.Path.{sym, ap, ◌∙◌}
use mathlib.Core.Bool.{cond}
use borrow.Author.Tests.{lt-ltb, le-ltb}
use Rattle.pair_steps.specs.declared.What.TheVariants.{Over}
use Rattle.pair_steps.specs.Steps.{holding, saying, last_of}
use Rattle.pair_steps.proofs.finish.Goals as goal

pub returns-then-p-gt0 : goal.returns-then-p-gt0
unfolding last_of
returns-then-p-gt0 c =
    let i = c.before.before in
    let g = i in
    let p = g.args.p in
    record {
      printed = g.give_up-n.result;
      says = g.give_up-n.ensures;
      step = c.saying.ensures ∙ ap (λ q. saying q g.give_up-n.result) c.holding.ensures
          ∙ sym (ap (λ t. cond t (saying (holding p 0 0) g.give_up-n.result) (record { pairs = p; what = Over; first = 0 })) (lt-ltb 0 p.held i.if-p-gt0.true));
    }

pub returns : goal.returns
unfolding last_of
returns c =
    let g = c in
    let p = g.args.p in
    record {
      printed = g.give_up-n.result;
      says = g.give_up-n.ensures;
      step = sym (ap (λ t. cond t (saying (holding p 0 0) g.give_up-n.result) (record { pairs = p; what = Over; first = 0 })) (le-ltb 0 p.held c.if-p-gt0.false));
    }
