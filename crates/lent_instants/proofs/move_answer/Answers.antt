use mathlib.Core.Path.{ap, ◌∙◌}
use Rattle.std.specs.Prelude.{Result}
use Rattle.instant.specs.declared.Instant.{Instant}
use Rattle.instant.specs.declared.MoveRefusal.{MoveRefusal}
use Rattle.lent_instants.specs.Instants.{moved_answer, moved_put}
use Rattle.lent_instants.proofs.move_answer.Goals as goal

pub returns : goal.returns
returns c =
    let old = c.args.out.now in
    record { value = c.put_moved.ensures.value ∙ ap moved_answer c.move_by.ensures; out_after = c.put_moved.ensures.out_after ∙ ap (λ (x : Result Instant MoveRefusal). moved_put x old) c.move_by.ensures }
