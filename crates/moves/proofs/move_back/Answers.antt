use mathlib.Core.Path.{ap, ◌∙◌}
use lib.IntN.{ℤ}
use Rattle.instant.specs.Move.{move_of}
use Rattle.moves.proofs.Moves.{minus_fits, minus_int}
use Rattle.moves.proofs.move_back.Goals as goal

pub overflow_sub-s : goal.overflow_sub-s
overflow_sub-s c = minus_fits c.args.span.0 c.requires

pub returns : goal.returns
returns c =
    let a = c.args in
    c.move_by.ensures ∙ ap (λ (x : ℤ). move_of a.t.0 x) (minus_int a.span.0 c.requires)
