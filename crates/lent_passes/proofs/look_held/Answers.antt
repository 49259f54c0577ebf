use mathlib.Core.Path.{sym, ap, ◌∙◌}
use lib.ListN.{length}
use Rattle.std.specs.Prelude.{Result, ℕ}
use Rattle.horizon.specs.declared.Look.{Look}
use Rattle.requests.specs.Lists.{over}
use Rattle.lent_passes.specs.Looks.{look_answer, look_numbers}
use Rattle.lent_passes.proofs.Posts.{seen_fits}
use Rattle.lent_passes.proofs.look_held.Goals as goal

pub put_look-requires : goal.put_look-requires
put_look-requires c =
    seen_fits c.args.numbers.now c.args.marks.now c.args.station.now c.args.instant (length c.args.look.now) _ (sym c.sighting_held.ensures ∙ c.in-Ok.is)

pub returns-in-Ok : goal.returns-in-Ok
returns-in-Ok c =
    let e = sym c.sighting_held.ensures ∙ c.in-Ok.is in
    record { value = c.put_look.ensures.value ∙ sym (ap look_answer e); look_after = c.put_look.ensures.out_after ∙ sym (ap (λ (x : Result Look ℕ). over (look_numbers x) c.args.look.now) e) }

pub returns-in-Err : goal.returns-in-Err
unfolding look_answer look_numbers
returns-in-Err c =
    let e = sym c.sighting_held.ensures ∙ c.in-Err.is in
    record { value = c.answer.ensures ∙ sym (ap look_answer e); look_after = sym (ap (λ (x : Result Look ℕ). over (look_numbers x) c.args.look.now) e) }
