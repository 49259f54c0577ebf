use Rattle.station_text.proofs.Words.{decimal_read}
use Rattle.station_text.proofs.read_decimal.Goals as goal

pub returns : goal.returns
returns c =
    decimal_read c.args.s.now c.sign_size-from.result c.sign_size-from.ensures.0 c.read_micro-micro.ensures c.signed.ensures
