use mathlib.Core.Path.{sym, ap, ◌∙◌}
use lib.ListN.{length}
use Rattle.report.specs.Numbers.{store_refusal, stored_over}
use Rattle.report.proofs.numbers.store_report.Goals as goal

pub returns-in-Ok : goal.returns-in-Ok
returns-in-Ok c =
    let counts = c.args.counts.now in
    let e = c.in-Ok.is in
    record { value = c.store_tally.ensures.value ∙ sym (ap (λ z. store_refusal z (length counts)) e); counts_after = c.store_tally.ensures.counts_after ∙ sym (ap (λ z. stored_over z counts) e) }
