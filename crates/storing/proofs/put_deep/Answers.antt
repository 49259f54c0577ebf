use mathlib.Core.Path.{refl}
use mathlib.Core.List.{◌++◌}
use Rattle.storage.specs.Storage.{deep_numbers, secular_numbers, lunar_solar_numbers, integrator_numbers}
use Rattle.storing.proofs.Runs.{run_next}
use Rattle.storing.proofs.put_deep.Goals as goal

pub returns : goal.returns
unfolding deep_numbers lunar_solar_numbers
returns c =
    let p2 = c.before.before.before.before in
    let a = p2.args in
    let l = a.numbers.now in
    let rates = secular_numbers a.d.rates in
    let both = lunar_solar_numbers a.d.periodics in
    let second = run_next l _ _ _ rates both 36 41 p2.put.ensures refl p2.put_lunar_solar.ensures refl in
    run_next l _ _ _ (rates ++ both) (integrator_numbers a.d.integrator) 36 67 second refl c.put_integrator.ensures refl
