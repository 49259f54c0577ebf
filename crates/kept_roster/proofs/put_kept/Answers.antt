use mathlib.Core.Path.{ap}
use Rattle.text.proofs.Pieces.{same}
use Rattle.roster_listing.specs.Text.{ages_text}
use Rattle.kept_roster.proofs.put_kept.Goals as goal

pub returns : goal.returns
returns c = same (ap ages_text c.row_of-row.ensures) c.put_by_age.ensures
