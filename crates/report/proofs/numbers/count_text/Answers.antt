use mathlib.Core.Path.{ap, ◌∙◌}
use lib.ListN.{length}
use Rattle.report.specs.Numbers.{store_refusal, stored_over}
use Rattle.report.proofs.numbers.count_text.Goals as goal

pub returns : goal.returns
returns c =
    let counts = c.args.counts.now in
    record { value = c.store_report.ensures.value ∙ ap (λ z. store_refusal z (length counts)) c.report_text.ensures; counts_after = c.store_report.ensures.counts_after ∙ ap (λ z. stored_over z counts) c.report_text.ensures }
