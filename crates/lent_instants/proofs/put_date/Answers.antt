use lib.ListN.{length, length-set}
use Prim.Native.Nat.{◌<◌}
use native.Mathlib.Omega.{arith}
use borrow.Author.Tests.{lt-ltb, le-ltb}
use Rattle.lent_instants.specs.Instants.{date_answer, date_over}
use Rattle.lent_instants.proofs.put_date.Goals as goal

pub returns-then-out-lt3 : goal.returns-then-out-lt3
unfolding date_answer date_over
returns-then-out-lt3 c = (simp (lt-ltb _ _ c.if-out-lt3.true) c.answer.ensures, simp (lt-ltb _ _ c.if-out-lt3.true))

pub bounds-out-1 : goal.bounds-out-1
bounds-out-1 c = let h : 1 < length c.args.out.now = omega (arith, c.if-out-lt3.false) in rw length-set h

pub returns : goal.returns
unfolding date_answer date_over
returns c = (simp (le-ltb _ _ c.if-out-lt3.false) c.answer-2.ensures, simp (le-ltb _ _ c.if-out-lt3.false))
