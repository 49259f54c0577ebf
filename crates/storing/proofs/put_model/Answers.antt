use mathlib.Core.Path.{refl, ap, ◌∙◌}
use mathlib.Core.List.{◌∷◌}
use lib.Seq.{sets}
use Rattle.storage.specs.Storage.{near_numbers, method_numbers, model_numbers, model_marks, isimp_mark, epoch_marks}
use Rattle.storing.proofs.Runs.{run_next}
use Rattle.storing.proofs.put_model.Goals as goal

pub returns : goal.returns
unfolding model_numbers near_numbers model_marks
returns c =
    let p1 = c.before.before.before.before in
    let a = p1.args in
    let model = a.model in record { numbers_after = run_next a.numbers.now _ _ _ (near_numbers model.near) (method_numbers model.method) 2 36 p1.put_near.ensures refl c.put_method.ensures refl; marks_after = (c.put_marks.ensures ∙ ap (λ x. sets a.marks.now 2 (isimp_mark model.near.isimp ∷ x ∷ epoch_marks model.epoch)) p1.method_mark-kind.ensures) }
