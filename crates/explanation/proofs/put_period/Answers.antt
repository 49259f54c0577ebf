use Prim.Native.Nat.{◌/◌, ◌%◌}
use mathlib.Core.Path.{ap}
use Rattle.text.specs.Output.{decimal}
use Rattle.text.proofs.Pieces.{both, same}
use Rattle.explanation.specs.Explained.{period_text}
use Rattle.explanation.proofs.put_period.Goals as goal

pub returns : goal.returns
unfolding period_text
returns c =
    let s = c.period_of-s.ensures in
    both c.put_bytes-p.ensures
    (both (same (ap (λ n. decimal (n / 60)) s) c.put_decimal-p.ensures)
    (both c.put_bytes-p-2.ensures (both (same (ap (λ n. decimal (n % 60)) s) c.put_decimal-p-2.ensures) c.put_bytes.ensures)))
