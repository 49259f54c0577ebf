use Rattle.text.specs.Output.{places}
use lib.ListN.{length, drop}
use mathlib.Core.List.{◌++◌}
use mathlib.Core.Path.{◌≡◌}
use Rattle.text.proofs.output.spell_places.Given as goal

abbrev pub invariant-loop-i : goal.invariant-loop-i
invariant-loop-i l = places l.base l.i l.rest ++ drop l.i l.digits ≡ places l.base (length l.initial.digits) l.n
