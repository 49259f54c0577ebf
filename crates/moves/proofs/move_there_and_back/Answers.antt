use mathlib.Core.Path.{sym, ap, ◌∙◌}
use lib.IntN.{neg_ℤ}
use Rattle.std.specs.Prelude.{Err, Result}
use Rattle.std.proofs.lemmas.Result.{err_from_is_err_and}
use Rattle.instant.specs.declared.Instant.{Instant}
use Rattle.instant.specs.declared.MoveRefusal.{MoveRefusal}
use Rattle.moves.specs.Moves.{then_by}
use Rattle.moves.proofs.Moves.{back_post, within_limit}
use Rattle.moves.proofs.move_there_and_back.Goals as goal

pub move_back-requires : goal.move_back-requires
move_back-requires c = within_limit c.args.t.0 c.args.span.0 _ (sym c.move_by.ensures ∙ c.in_ok-there.was)

pub returns-in_err-there : goal.returns-in_err-there
returns-in_err-there c =
    let y = neg_ℤ c.args.span.0 in
    let g = err_from_is_err_and _ c.from_residual.ensures.1 in
    back_post _ _ _ (g.1 ∙ ap Err g.2 ∙ sym (ap (λ (x : Result Instant MoveRefusal). then_by x y) (sym c.move_by.ensures ∙ c.in_err-there.was)))

pub returns : goal.returns
returns c =
    let y = neg_ℤ c.args.span.0 in
    back_post _ _ _ (c.move_back.ensures ∙ sym (ap (λ (x : Result Instant MoveRefusal). then_by x y) (sym c.move_by.ensures ∙ c.in_ok-there.was)))
