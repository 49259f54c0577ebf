use mathlib.Core.Path.{refl}
use native.Mathlib.Omega.{arith}
use Rattle.station_text.specs.Words.{behind}
use Rattle.station_text.proofs.Words.{none_behind}
use borrow.Author.Rules.{rules}
use Rattle.station_text.proofs.after.Goals as goal

pub returns-then-n-s : goal.returns-then-n-s
unfolding behind
returns-then-n-s c = (search rules, refl)

pub returns : goal.returns
returns c = (omega arith, none_behind _ _ c.if-n-s.false)
