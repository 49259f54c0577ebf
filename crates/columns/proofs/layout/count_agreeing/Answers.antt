use mathlib.Core.Path.{sym, ◌∙◌}
use native.Mathlib.Omega.{arith}
use Rattle.columns.proofs.Columns.{more, stop, done, line_done}
use Rattle.columns.proofs.layout.count_agreeing.Goals as goal

pub returns-then-layout-i : goal.returns-then-layout-i
returns-then-layout-i c = (done _ _ _ _ _ c.loop-i.invariant c.if-layout-i.true, omega arith)

pub returns-then-not-fits_at : goal.returns-then-not-fits_at
returns-then-not-fits_at c =
    (stop _ _ _ _ _ c.loop-i.invariant c.if-layout-i.false (omega arith) (sym c.fits_at.ensures ∙ c.if-not-fits_at.true), omega arith)

pub loop-i-preserved : goal.loop-i-preserved
loop-i-preserved c =
    more _ _ _ _ _ c.loop-i.invariant c.if-layout-i.false (omega arith) (sym c.fits_at.ensures ∙ c.if-not-fits_at.false)

pub returns : goal.returns
returns c = let e = line_done _ _ _ _ _ c.loop-i.invariant (omega arith) in (omega arith, omega arith)
