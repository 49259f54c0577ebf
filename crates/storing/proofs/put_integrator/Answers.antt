use mathlib.Core.Path.{refl}
use Rattle.storage.specs.Storage.{integrator_numbers, start_numbers, coefficients}
use Rattle.storing.proofs.Runs.{run_next}
use Rattle.storing.proofs.put_integrator.Goals as goal

pub returns : goal.returns
unfolding integrator_numbers
returns c =
    let r = c.before.before.before.before.before in
    let a = r.args in
    run_next a.numbers.now _ _ _ (start_numbers a.i) (coefficients a.i.resonance) 67 73 r.put.ensures refl c.put-2.ensures r.coefficients-ten.ensures
