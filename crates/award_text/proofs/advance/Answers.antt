use Rattle.award_text.specs.Text.{advanced}
use Rattle.award_text.proofs.advance.Goals as goal

pub returns : goal.returns
unfolding advanced
returns c = simp (c.either-offers.ensures, c.either-entries.ensures)
