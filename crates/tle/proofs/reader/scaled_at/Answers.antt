use native.Mathlib.Omega.{arith}
use Rattle.tle.proofs.WithSign.{held}
use borrow.Author.Tests.{eq-eqb, ne_eqb}
use Rattle.tle.specs.Read.{scaled_at}
use Rattle.tle.proofs.reader.scaled_at.Goals as goal

pub returns-then-digits-eq0 : goal.returns-then-digits-eq0
unfolding scaled_at
returns-then-digits-eq0 c =
    rw (← c.field_at-digits.ensures.0) (simp (eq-eqb _ _ c.if-digits-eq0.true, held _ _ c.with_sign-mantissa.ensures (omega arith)))

pub returns : goal.returns
unfolding scaled_at
returns c =
    rw (← c.field_at-digits.ensures.0, ← c.field_at.ensures.0)
    (simp (ne_eqb _ _ c.if-digits-eq0.false, held _ _ c.with_sign-mantissa.ensures (omega arith), held _ _ c.with_sign-exponent.ensures (omega arith)))
