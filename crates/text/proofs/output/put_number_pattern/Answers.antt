use Rattle.text.specs.Output.{pattern}
use Rattle.text.proofs.output.put_number_pattern.Goals as goal

pub returns : goal.returns
unfolding pattern
returns c = c.put_places.ensures
