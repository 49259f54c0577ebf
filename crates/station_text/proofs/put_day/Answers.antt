use Rattle.station_text.specs.Print.{dates_text}
use Rattle.text.proofs.Pieces.{both}
use Rattle.station_text.proofs.put_day.Goals as goal

pub returns : goal.returns
unfolding dates_text
returns c =
    both c.put_decimal-p.ensures (both c.put_byte-p.ensures (both c.put_decimal-p-2.ensures (both c.put_byte-p-2.ensures c.put_decimal.ensures)))
