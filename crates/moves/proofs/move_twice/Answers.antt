use mathlib.Core.Path.{sym, ap, ◌∙◌}
use Rattle.std.specs.Prelude.{Err, Result}
use Rattle.std.proofs.lemmas.Result.{err_from_is_err_and}
use Rattle.instant.specs.declared.Instant.{Instant}
use Rattle.instant.specs.declared.MoveRefusal.{MoveRefusal}
use Rattle.moves.specs.Moves.{then_by}
use Rattle.moves.proofs.Moves.{twice_post}
use Rattle.moves.proofs.move_twice.Goals as goal

pub returns-in_err-middle : goal.returns-in_err-middle
returns-in_err-middle c =
    let y = c.args.second.0 in
    let g = err_from_is_err_and _ c.from_residual.ensures.1 in
    twice_post _ _ y _ (g.1 ∙ ap Err g.2 ∙ sym (ap (λ (x : Result Instant MoveRefusal). then_by x y) (sym c.move_by.ensures ∙ c.in_err-middle.was)))

pub returns : goal.returns
returns c =
    let y = c.args.second.0 in
    twice_post _ _ y _ (c.move_by-2.ensures ∙ sym (ap (λ (x : Result Instant MoveRefusal). then_by x y) (sym c.move_by.ensures ∙ c.in_ok-middle.was)))
