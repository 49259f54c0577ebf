use mathlib.Core.Path.{sym, ap, ◌∙◌}
use Rattle.tle.specs.Read.{meaning_of}
use Rattle.record_numbers.specs.Numbers.{judged_by, judged_of}
use Rattle.std.specs.Prelude.{Some}
use Rattle.record_numbers.proofs.judge_numbers.Goals as goal

pub returns-in-Ok : goal.returns-in-Ok
unfolding judged_of
returns-in-Ok c =
    ap Some (c.read_meaning.ensures ∙ ap meaning_of c.of.ensures)
    ∙ ap judged_by (sym c.in-Ok.is ∙ c.record_of-given.ensures)
