use Rattle.station_text.specs.Print.{window_text}
use Rattle.text.proofs.Pieces.{both}
use Rattle.station_text.proofs.put_window.Goals as goal

pub returns : goal.returns
unfolding window_text
returns c =
    both c.put_bytes-p.ensures
    (both c.put_date-p.ensures
    (both c.put_byte-p.ensures
    (both c.put_date-p-2.ensures
    (both c.put_byte-p-2.ensures
    (both c.put_decimal-p.ensures
    c.put_byte.ensures)))))
