use Rattle.listing.specs.Listing.{trimmed}
use borrow.Author.Tests.{eq-eqb, ne_eqb}
use native.Mathlib.Omega.{arith}
use Rattle.listing.proofs.piece_size.Goals as goal

pub returns-then-c-ne32 : goal.returns-then-c-ne32
unfolding trimmed
returns-then-c-ne32 c = (omega arith, simp (ne_eqb _ _ c.if-c-ne32.true))

pub returns-then-b-ne32 : goal.returns-then-b-ne32
unfolding trimmed
returns-then-b-ne32 c = (omega arith, simp (eq-eqb _ _ c.if-c-ne32.false, ne_eqb _ _ c.if-b-ne32.true))

pub returns-then-a-ne32 : goal.returns-then-a-ne32
unfolding trimmed
returns-then-a-ne32 c =
    (omega arith, simp (eq-eqb _ _ c.if-c-ne32.false, eq-eqb _ _ c.if-b-ne32.false, ne_eqb _ _ c.if-a-ne32.true))

pub returns : goal.returns
unfolding trimmed
returns c =
    (omega arith, simp (eq-eqb _ _ c.if-c-ne32.false, eq-eqb _ _ c.if-b-ne32.false, eq-eqb _ _ c.if-a-ne32.false))
