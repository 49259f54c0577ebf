use mathlib.Core.List.{append_assoc}
use Rattle.text.specs.Output.{line}
use Rattle.listing.specs.Listing.{epoch_text}
use Rattle.text.proofs.Pieces.{both}
use Rattle.listing.proofs.put_epoch.Goals as goal

pub returns : goal.returns
unfolding line epoch_text
returns c =
    simp append_assoc
    (both c.put_bytes-p.ensures
    (both c.put_decimal-p.ensures
    (both c.put_byte-p.ensures
    (both c.put_decimal-p-2.ensures
    (both c.put_byte-p-2.ensures
    (both c.put_decimal-p-3.ensures
    c.put_byte.ensures))))))
