use mathlib.Core.Path.{ap, ◌∙◌}
use Rattle.tle.specs.Read.{read_of}
use Rattle.roster.specs.Roster.{bytes_of}
use Rattle.roster_calls.specs.Calls.{answered, lodged_by, lodging_of, lodged_over}
use Rattle.kept_roster.specs.Kept.{kept_lodging, kept_lodged}
use Rattle.kept_roster.proofs.lodge_kept.Goals as goal

pub returns : goal.returns
unfolding lodging_of lodged_over kept_lodging kept_lodged
returns c =
    let s = c.args in
    let read = read_of s.line1.now s.line2.now in (
      c.lodge.ensures.0 ∙ ap (λ o. answered read o) c.row_of-row.ensures,
      c.lodge.ensures.1 ∙ ap (λ o. lodged_by bytes_of read o s.roster.now) c.row_of-row.ensures,
    )
