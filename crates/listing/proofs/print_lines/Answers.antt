use Rattle.listing.specs.Listing.{lines_text}
use Rattle.listing.proofs.print_lines.Goals as goal

pub returns : goal.returns
unfolding lines_text
returns c = c.print_held.ensures
