use lib.ListN.{length, take, drop, get_or}
use mathlib.Core.Path.{◌≡◌, ap, ◌∙◌}
use Prim.Native.Nat.{ℕ, ◌+◌, ◌-◌, ◌≤◌}
use Rattle.award.specs.Plan.{answer_of}
use native.Mathlib.Omega.{arith}
use borrow.Author.Tests.{lt-ltb, le-ltb, le-leb, lt-leb}
use Rattle.std.specs.Prelude.{Ok}
use Rattle.award_text.specs.Text.{judged}
use Rattle.award_text.proofs.judge.Goals as goal

none-off : (n : ℕ) → n - 0 ≡ n
none-off n = omega arith

pub returns-then-n-m : goal.returns-then-n-m
unfolding judged
returns-then-n-m c = simp (lt-ltb _ _ c.if-n-m.true)

pub returns-then-m-row : goal.returns-then-m-row
unfolding judged
returns-then-m-row c =
    let a = c.args in
    let h : length a.row.now ≤ a.d.entries + 1 = omega (arith, c.if-m-row.true) in
    simp (le-ltb _ _ c.if-n-m.false, le-leb _ _ h)

pub returns-then-m-row-2 : goal.returns-then-m-row-2
unfolding judged
returns-then-m-row-2 c = simp (le-ltb _ _ c.if-n-m.false, le-leb _ _ c.if-m-row-2.true)

pub returns : goal.returns
unfolding judged
returns c =
    let a = c.args in
    let n = a.d.offers in
    let m = a.d.entries in
    let row = a.row.now in
    simp (le-ltb _ _ c.if-n-m.false, lt-leb _ _ c.if-m-row-2.false)
    (ap Ok c.check_plan-answer.ensures
    ∙ ap (λ k. Ok (answer_of (take k row) (take (m - n) (drop n row)) (get_or row m 0) (get_or row (m + 1) 0))) (none-off n))
