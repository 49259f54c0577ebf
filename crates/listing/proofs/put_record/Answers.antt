use Rattle.listing.specs.Listing.{record_text}
use Rattle.text.proofs.Pieces.{both}
use Rattle.listing.proofs.put_record.Goals as goal

pub returns : goal.returns
unfolding record_text
returns c = both c.put_fields1-p.ensures c.put_fields2.ensures
