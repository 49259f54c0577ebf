use mathlib.Core.Path.{sym, ap}
use Prim.Native.Nat.{ℕ}
use native.Mathlib.Nat.{min-eq_left, min-eq_right, le_of_lt}
use Rattle.text.specs.Output.{places}
use Rattle.text.proofs.Pieces.{same}
use borrow.Author.Rules.{rules}
use Rattle.decimals.proofs.put_last_places.Goals as goal

pub returns-then-width-le9 : goal.returns-then-width-le9
returns-then-width-le9 c =
    let p = c in
    let i = p in
    let a = i.args in
    same (ap (λ (z : ℕ). places 10 z a.n) (sym (min-eq_left {n = a.width} {m = 9} i.if-width-le9.true))) p.put_places.ensures

pub returns : goal.returns
returns c =
    let p = c in
    let i = p in
    let a = i.args in
    same (ap (λ (z : ℕ). places 10 z a.n) (sym (min-eq_right {n = 9} {m = a.width} (le_of_lt i.if-width-le9.false)))) p.put_places-2.ensures
