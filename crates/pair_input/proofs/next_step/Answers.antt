use mathlib.Core.Path.{refl, sym, ◌∙◌}
use mathlib.Core.Bool.{false≢true}
use borrow.Author.Rules.{rules}
use borrow.Author.Tests.{not-true, not-false}
use Rattle.pair_input.proofs.next_step.Goals as goal

-- the text ends
pub returns-then-not-next : goal.returns-then-not-next
returns-then-not-next c =
    let f = c.before.before in
    let i = f.before.before.before in
    let n = i in
    record {
      next = n.next_line-next.result;
      reads = n.next_line-next.ensures;
      left = refl;
      takes = λ e. absurd (false≢true (sym (not-true _ i.if-not-next.true) ∙ e));
      ends = λ e. (refl, f.finish-step.ensures);
    }

-- a line is taken
pub returns : goal.returns
returns c =
    let t = c.before.before.before.before in
    let i = t.before.before.before.before in
    let n = i in
    record {
      next = n.next_line-next.result;
      reads = n.next_line-next.ensures;
      left = refl;
      takes = λ e. t.take_next-step.ensures;
      ends = λ e. absurd (false≢true (sym e ∙ not-false _ i.if-not-next.false));
    }
