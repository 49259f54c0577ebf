use Prim.Native.Nat.{ℕ}
use mathlib.Core.Path.{sym, ap, ◌∙◌}
use mathlib.Core.List.{List, []}
use mathlib.Core.Bool.{cond}
use native.Mathlib.Omega.{arith}
use lib.ListN.{length, take}
use borrow.Author.Tests.{lt-ltb, le-ltb}
use Rattle.text.proofs.Pieces.{none, same}
use Rattle.line_input.specs.Lines.{whole_in}
use Rattle.pair_lines.specs.Said.{said_text}
use Rattle.pair_lines.specs.declared.Remark.TheVariants as remark
use Rattle.pair_steps.specs.Steps.{given_up}
use Rattle.pair_steps.proofs.give_up.Goals as goal

pub returns-then-p-gt0 : goal.returns-then-p-gt0
unfolding given_up
returns-then-p-gt0 c =
    let p = c.before.before in
    let w = p.before.before.before in
    let i = w in
    let s = i.args in
    let text : ℕ → List ℕ = λ n. said_text s.p.held remark.NoSecond (take n s.line1.now) in
    same (ap text w.whole_in-n.ensures.value ∙ sym (ap (λ t. cond t (text (whole_in s.p.size (length s.line1.now))) []) (lt-ltb 0 s.p.held i.if-p-gt0.true)))
    p.put_said.ensures

pub returns : goal.returns
unfolding given_up
returns c =
    let s = c.args in
    same (sym (ap (λ t. cond t (said_text s.p.held remark.NoSecond (take (whole_in s.p.size (length s.line1.now)) s.line1.now)) []) (le-ltb 0 s.p.held c.if-p-gt0.false)))
    (none (omega arith) (omega arith))
