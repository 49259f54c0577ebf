use Rattle.text.specs.Input.{fed}
use lib.ListN.{drop}
use mathlib.Core.Path.{◌≡◌}
use Rattle.text.proofs.input.Lines.feed.Given as goal

abbrev pub invariant-loop-byte : goal.invariant-loop-byte
invariant-loop-byte l = fed l.lines (drop l.byte-index l.piece) ≡ fed l.initial.lines l.piece
