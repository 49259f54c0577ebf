use mathlib.Core.Path.{ap, ◌∙◌}
use Rattle.report.specs.State.{fed, finished}
use Rattle.report.proofs.Whole.{whole}
use Rattle.report.proofs.report_text.Goals as goal

pub returns : goal.returns
returns c =
    let i = c.args.text.now in
    c.finish.ensures ∙ ap finished (c.feed-state.ensures ∙ ap (λ s. fed s i) c.start-state.ensures) ∙ whole i
