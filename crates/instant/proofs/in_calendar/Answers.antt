use mathlib.Core.Path.{sym, ap}
use Prim.Native.Nat.{ℕ}
use lib.Dec.{ltb}
use Rattle.instant.specs.Calendar.{in_calendar}
use Rattle.instant.proofs.Calendar.{calendar_end_lem}
use Rattle.instant.proofs.in_calendar.Goals as goal

pub returns : goal.returns
unfolding in_calendar
returns c = ap (λ (z : ℕ). ltb c.args.t z) (sym calendar_end_lem)
