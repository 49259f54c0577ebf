use mathlib.Core.Bool.{true, false}
use mathlib.Core.Path.{◌≡◌}
use native.Mathlib.Omega.{arith}
use lib.Dec.{ltb}
use borrow.Author.Tests.{eq-eqb, ne_eqb, lt-ltb, le-ltb}
use Rattle.tle.specs.Read.{verdict_of}
use Rattle.tle.proofs.reader.judge_line.Goals as goal

pub returns-then-line-ne69 : goal.returns-then-line-ne69
unfolding verdict_of
returns-then-line-ne69 c = simp (ne_eqb _ _ c.if-line-ne69.true)

pub returns-then-n-eq0 : goal.returns-then-n-eq0
unfolding verdict_of
returns-then-n-eq0 c =
    let a = c in
    let none : ltb 0 a.agreeing-n.result ≡ false = le-ltb 0 a.agreeing-n.result (omega arith) in
    rw (← a.agreeing-n.ensures.0) (simp (eq-eqb _ _ a.if-line-ne69.false, none))

pub returns-then-n-ne69 : goal.returns-then-n-ne69
unfolding verdict_of
returns-then-n-ne69 c =
    let a = c in
    let some : ltb 0 a.agreeing-n.result ≡ true = lt-ltb 0 a.agreeing-n.result (omega arith) in
    rw (← a.agreeing-n.ensures.0) (simp (eq-eqb _ _ a.if-line-ne69.false, some, ne_eqb _ _ c.if-n-ne69.true))

pub returns-then-checksum-digit : goal.returns-then-checksum-digit
unfolding verdict_of
returns-then-checksum-digit c =
    let sum = c.before.before.before in
    let whole = sum.before.before in
    let a = whole in
    let some : ltb 0 a.agreeing-n.result ≡ true = lt-ltb 0 a.agreeing-n.result (omega arith) in
    rw (← a.agreeing-n.ensures.0, ← sum.checksum.ensures, ← c.digit.ensures.0)
    (simp (eq-eqb _ _ a.if-line-ne69.false, some, eq-eqb _ _ whole.if-n-ne69.false, ne_eqb _ _ c.if-checksum-digit.true))

pub returns : goal.returns
unfolding verdict_of
returns c =
    let sum = c.before.before.before in
    let whole = sum.before.before in
    let a = whole in
    let some : ltb 0 a.agreeing-n.result ≡ true = lt-ltb 0 a.agreeing-n.result (omega arith) in
    rw (← a.agreeing-n.ensures.0, ← sum.checksum.ensures, ← c.digit.ensures.0)
    (simp (eq-eqb _ _ a.if-line-ne69.false, some, eq-eqb _ _ whole.if-n-ne69.false, eq-eqb _ _ c.if-checksum-digit.false))
