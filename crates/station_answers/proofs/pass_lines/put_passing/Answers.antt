use mathlib.Core.Path.{sym, ap, ◌∙◌}
use Rattle.std.specs.Prelude.{Ok}
use Rattle.text.proofs.Pieces.{same}
use Rattle.station_answers.specs.Print.{passing_text}
use Rattle.station_answers.proofs.pass_lines.put_passing.Goals as goal

pub returns-in-Some : goal.returns-in-Some
returns-in-Some c =
    same (sym (ap (passing_text c.args.satellite c.args.station c.args.count) (c.in-Ok.is ∙ ap Ok c.in-Some.is))) c.put_found.ensures

pub returns-in-None : goal.returns-in-None
returns-in-None c =
    same (sym (ap (passing_text c.args.satellite c.args.station c.args.count) (c.in-Ok.is ∙ ap Ok c.in-None.is))) c.put_line.ensures

pub returns-in-Err : goal.returns-in-Err
returns-in-Err c =
    same (sym (ap (passing_text c.args.satellite c.args.station c.args.count) c.in-Err.is)) c.put_line-in-Err.ensures
