use mathlib.Core.Path.{◌≡◌}
use Prim.Native.Nat.{◌-◌}
use Rattle.date_text.specs.Date.{month_from, month_of}
use Rattle.date_text.proofs.month_of.Given as goal

abbrev pub invariant-loop-month : goal.invariant-loop-month
invariant-loop-month l = month_from (12 - l.month) l.year l.month l.rest ≡ month_of l.year l.day
