use Rattle.std.proofs.Common.{◌≡◌, refl, ◌∙◌}
use borrow.Author.Tests.{eq-eqb, ne_eqb, lt-ltb, le-ltb}
use denote.Enum.Bare.{sameb}
use Rattle.resonance.specs.declared.place.Side.{Side}
use Rattle.resonance.specs.declared.place.Side.TheVariants.{Forward, Back}
use Rattle.resonance.specs.contracts.place.Side.{the_type}
use Rattle.resonance.specs.Place.{same_side, resumes}
use Rattle.resonance.proofs.place.Place.resumes.Goals as goal

-- the derived `==` of the sides
sides : (d e : Side) → sameb the_type d e ≡ same_side d e
sides Forward Forward = refl
sides Forward Back = refl
sides Back Forward = refl
sides Back Back = refl

pub returns-then-m-n : goal.returns-then-m-n
unfolding resumes
returns-then-m-n c = simp (lt-ltb _ _ c.if-m-n.true)

pub returns-then-n-eq0 : goal.returns-then-n-eq0
unfolding resumes
returns-then-n-eq0 c = simp (le-ltb _ _ c.if-m-n.false, eq-eqb _ _ c.if-n-eq0.true)

pub returns : goal.returns
unfolding resumes
returns c = simp (le-ltb _ _ c.if-m-n.false, ne_eqb _ _ c.if-n-eq0.false) (c.eq.ensures ∙ sides _ _)
