use Rattle.tle.specs.Read.{letter}
use Rattle.tle.proofs.Class.letter.Goals as goal

pub returns-in-Unclassified : goal.returns-in-Unclassified
unfolding letter
returns-in-Unclassified c = cc

pub returns-in-Classified : goal.returns-in-Classified
unfolding letter
returns-in-Classified c = cc

pub returns-in-Secret : goal.returns-in-Secret
unfolding letter
returns-in-Secret c = cc
