use mathlib.Core.Path.{ap, ◌∙◌}
use Rattle.roster.specs.Roster.{bytes_of}
use Rattle.roster_calls.specs.Calls.{leaving, withdrawn_by, withdrawal_of, withdrawn_over}
use Rattle.kept_roster.specs.Kept.{kept_withdrawal, kept_withdrawn}
use Rattle.kept_roster.proofs.withdraw_kept.Goals as goal

pub returns : goal.returns
unfolding withdrawal_of withdrawn_over kept_withdrawal kept_withdrawn
returns c =
    let s = c.args in (
      c.withdraw.ensures.0 ∙ ap (λ o. leaving s.number o) c.row_of-row.ensures,
      c.withdraw.ensures.1 ∙ ap (λ o. withdrawn_by bytes_of s.number o s.roster.now) c.row_of-row.ensures,
    )
