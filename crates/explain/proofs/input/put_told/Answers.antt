use Rattle.text.proofs.Pieces.{both}
use Rattle.explain.specs.Told.{told_text}
use Rattle.explain.proofs.input.put_told.Goals as goal

pub returns : goal.returns
unfolding told_text
returns c = both c.put_heading-p.ensures c.put_explanation.ensures
