use Rattle.trigonometry.specs.Trig.{sin_of, cos_of, sin_cos}
use borrow.Author.Rules.{rules}
use Rattle.floats.proofs.Literals.{literal}
use Rattle.trigonometry.proofs.sin_cos.Goals as goal

pub returns : goal.returns
unfolding sin_cos sin_of cos_of literal
returns c = record { value = (cc); sin_value = ((cc), (cc)) }
