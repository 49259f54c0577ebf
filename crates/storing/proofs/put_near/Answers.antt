use mathlib.Core.Path.{refl, ap, ◌∙◌}
use mathlib.Core.List.{◌++◌}
use lib.Seq.{sets}
use Rattle.storage.specs.Storage.{near_numbers, elements_numbers, drag_numbers, higher_numbers, rates_numbers, terms_numbers, kept_numbers}
use Rattle.storing.proofs.Runs.{run_next}
use Rattle.storing.proofs.put_near.Goals as goal

pub returns : goal.returns
unfolding near_numbers
returns c =
    let t = c.before.before.before in
    let a = t.args in
    let l = a.numbers.now in
    let n = a.n in
    run_next l _ _ _ (elements_numbers n.elements ++ drag_numbers n.drag)
    (higher_numbers n.higher ++ rates_numbers n.rates ++ terms_numbers n.terms ++ kept_numbers n.kept)
    2 18 (c.put.ensures ∙ ap (λ v. sets l 2 v) t.orbit_numbers-orbit.ensures) refl c.put-2.ensures t.term_numbers-terms.ensures
