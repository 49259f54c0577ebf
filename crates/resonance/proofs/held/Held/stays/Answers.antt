use borrow.Author.Tests.{eq-eqb, ne_eqb, not-true, not-false}
use Rattle.resonance.specs.Held.{stays}
use Rattle.resonance.proofs.held.Held.stays.Goals as goal

pub returns-then-not-self : goal.returns-then-not-self
unfolding stays
returns-then-not-self c = simp (not-true c.args.self.known c.if-not-self.true)

pub returns-then-place-m : goal.returns-then-place-m
unfolding stays
returns-then-place-m c = simp (not-false c.args.self.known c.if-not-self.false, ne_eqb _ _ c.if-place-m.true)

pub returns : goal.returns
unfolding stays
returns c = simp (not-false c.args.self.known c.if-not-self.false, eq-eqb _ _ c.if-place-m.false) c.resumes.ensures
