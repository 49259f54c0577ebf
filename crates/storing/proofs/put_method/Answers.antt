use mathlib.Core.Path.{sym, ap, ◌∙◌}
use lib.Ieee.{of_bits}
use lib.Seq.{sets}
use Rattle.storage.specs.Storage.{method_numbers}
use Rattle.storing.proofs.put_method.Goals as goal

pub returns-in-NearEarth : goal.returns-in-NearEarth
unfolding method_numbers of_bits
returns-in-NearEarth c =
    let p = c.before.before in
    p.put.ensures ∙ sym (ap (λ m. sets p.args.numbers.now 36 (method_numbers m)) c.in-NearEarth.is)

pub returns-in-DeepSpace : goal.returns-in-DeepSpace
unfolding method_numbers
returns-in-DeepSpace c =
    let p = c.before.before in
    p.put_deep.ensures ∙ sym (ap (λ m. sets p.args.numbers.now 36 (method_numbers m)) c.in-DeepSpace.is)
