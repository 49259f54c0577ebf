use mathlib.Core.Path.{sym, ap, ◌∙◌}
use mathlib.Core.Bool.{cond}
use lib.ListN.{get_or}
use borrow.Author.Tests.{eq-eqb, ne_eqb}
use Rattle.storage.specs.Storage.{epoch_at}
use Rattle.ephemeris_stages.specs.declared.Stage.TheVariants.{Asking, Over}
use Rattle.ephemeris_stages.specs.Stages.{opened_stage}
use Rattle.ephemeris_stages.proofs.opened_stage.Goals as goal

pub returns-then-refusal-eq0 : goal.returns-then-refusal-eq0
unfolding opened_stage
returns-then-refusal-eq0 c =
    let ms = c.args.marks.now in
    ap (λ e. Asking (record { sep = c.args.sep; epoch = e })) c.epoch_at-epoch.ensures
    ∙ sym (ap (λ t. cond t (Asking (record { sep = c.args.sep; epoch = epoch_at (get_or ms 4 0) (get_or ms 5 0) })) Over) (eq-eqb c.args.refusal 0 c.if-refusal-eq0.true))

pub returns : goal.returns
unfolding opened_stage
returns c =
    let ms = c.args.marks.now in
    sym (ap (λ t. cond t (Asking (record { sep = c.args.sep; epoch = epoch_at (get_or ms 4 0) (get_or ms 5 0) })) Over) (ne_eqb c.args.refusal 0 c.if-refusal-eq0.false))
