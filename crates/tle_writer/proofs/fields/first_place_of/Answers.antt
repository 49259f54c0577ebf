use mathlib.Core.Path.{sym}
use lib.ListN.{get_or-eq_default}
use Rattle.columns.specs.FirstPlace.{first_places}
use Rattle.tle_writer.proofs.fields.first_place_of.Goals as goal

pub returns-then-n-ge34 : goal.returns-then-n-ge34
returns-then-n-ge34 c = sym (get_or-eq_default first_places 0 c.if-n-ge34.true)
