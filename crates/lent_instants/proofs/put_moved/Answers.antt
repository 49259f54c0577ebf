use mathlib.Core.Path.{sym, ap, ◌∙◌}
use Rattle.std.specs.Prelude.{Result}
use Rattle.instant.specs.declared.Instant.{Instant}
use Rattle.instant.specs.declared.MoveRefusal.{MoveRefusal}
use Rattle.lent_instants.specs.Instants.{moved_answer, moved_put}
use Rattle.lent_instants.proofs.put_moved.Goals as goal

pub returns-in-Ok : goal.returns-in-Ok
unfolding moved_answer moved_put
returns-in-Ok c =
    let g = c.in-Ok.is in
    let old = c.args.out.now in
    record { value = c.answer.ensures ∙ sym (ap moved_answer g); out_after = sym (ap (λ (m : Result Instant MoveRefusal). moved_put m old) g) }
