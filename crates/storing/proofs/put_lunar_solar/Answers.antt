use mathlib.Core.Path.{refl, ap, ◌∙◌}
use mathlib.Core.List.{[], ◌∷◌, ◌++◌}
use lib.Seq.{sets}
use Rattle.storage.specs.Storage.{lunar_solar_numbers, periodics_numbers}
use Rattle.storing.proofs.Runs.{run_next}
use Rattle.storing.proofs.put_lunar_solar.Goals as goal

pub returns : goal.returns
unfolding lunar_solar_numbers
returns c =
    let m = c.before.before.before in
    let a = m.args in
    let l = a.numbers.now in
    let sun = periodics_numbers a.p.sun in
    let moon = periodics_numbers a.p.moon in
    let first = c.put.ensures ∙ ap (λ v. sets l 41 v) m.periodics_numbers-s.ensures in
    let second = run_next l _ _ _ sun moon 41 53 first refl c.put-2.ensures m.periodics_numbers-m.ensures in
    run_next l _ _ _ (sun ++ moon) (a.p.zmos ∷ a.p.zmol ∷ []) 41 65 second refl c.put-3.ensures refl
