use mathlib.Core.Path.{ap, sym, ◌∙◌}
use Rattle.listing.specs.Listing.{reading_text, count}
use Rattle.text.specs.Output.{bytes}
use Rattle.text.proofs.Pieces.{same}
use Rattle.listing.proofs.put_reading.Goals as goal

pub returns-in-Ok : goal.returns-in-Ok
unfolding reading_text
returns-in-Ok c = same (sym (ap reading_text c.in-Ok.is)) c.put_record.ensures

pub returns-in-Err : goal.returns-in-Err
unfolding reading_text
returns-in-Err c =
    same (ap (count (bytes "refused ")) c.number-n.ensures ∙ sym (ap reading_text c.in-Err.is)) c.put_line.ensures
