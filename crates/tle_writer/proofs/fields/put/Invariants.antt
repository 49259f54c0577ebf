use mathlib.Core.Path.{◌≡◌}
use mathlib.Core.List.{◌++◌}
use lib.ListN.{length, drop}
use Rattle.tle_writer.specs.Field.{lead}
use Rattle.tle_writer.proofs.fields.put.Given as goal

abbrev pub invariant-loop-i : goal.invariant-loop-i
invariant-loop-i l = lead l.z (length l.initial.out) l.n ≡ lead l.z l.i l.m ++ drop l.i l.out
