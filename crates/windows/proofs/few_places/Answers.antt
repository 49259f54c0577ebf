use Rattle.std.proofs.Common.{◌≡◌, ◌+◌, ◌/◌, arith}
use Rattle.windows.specs.Windows.{few_places}
use Rattle.windows.proofs.few_places.Goals as goal

pub returns : goal.returns
unfolding few_places
returns c =
    let half : c.div_ceil.result ≡ (c.args.samples + 1) / 2 = omega arith in
    rw (half, c.min.ensures)
