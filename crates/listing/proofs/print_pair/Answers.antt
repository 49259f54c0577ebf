use mathlib.Core.Path.{ap}
use Rattle.tle.proofs.Meaning.{passed_up, gone_on_lem}
use Rattle.listing.specs.Listing.{reading_text}
use Rattle.listing.proofs.Lengths.{prints_same}
use Rattle.listing.proofs.print_pair.Goals as goal

pub returns-in-Err : goal.returns-in-Err
returns-in-Err c =
    prints_same (ap reading_text (passed_up _ _ c.read_form.ensures c.in-Err.is)) c.print_reading.ensures

pub returns : goal.returns
returns c =
    prints_same (ap reading_text (gone_on_lem _ _ c.read_form.ensures c.in-Ok.is c.read_meaning.ensures)) c.print_reading-2.ensures
