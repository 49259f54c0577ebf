use Rattle.listing.specs.Listing.{reading_text}
use Rattle.text.proofs.Pieces.{measured}
use Rattle.listing.proofs.Lengths.{reading_short, refused, written}
use Rattle.listing.proofs.print_reading.Goals as goal

pub returns-then-out-size : goal.returns-then-out-size
returns-then-out-size c =
    let a = c.args in
    let text = reading_text a.reading in
    let e = measured c.put_reading-size.ensures (reading_short a.reading) in
    refused text a.out.now _ e c.if-out-size.true

pub returns : goal.returns
returns c =
    let a = c.args in
    let text = reading_text a.reading in
    let h = reading_short a.reading in
    written text a.out.now _ (measured c.put_reading-size.ensures h) c.if-out-size.false h c.put_reading-n.ensures
