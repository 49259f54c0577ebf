use mathlib.Core.Path.{◌∙◌, sym}
use Rattle.resonance.specs.Place.{begun}
use Rattle.resonance.proofs.place.Place.start.Goals as goal

pub returns-then-resumes : goal.returns-then-resumes
unfolding begun
returns-then-resumes c = c.facing.ensures ∙ simp (sym c.resumes.ensures ∙ c.if-resumes.true)

pub returns-else-resumes : goal.returns-else-resumes
unfolding begun
returns-else-resumes c = c.facing-else-resumes.ensures ∙ simp (sym c.resumes.ensures ∙ c.if-resumes.false)
