use mathlib.Core.Path.{ap}
use Rattle.text.proofs.Pieces.{same}
use Rattle.tle.proofs.Meaning.{passed_up, gone_on_lem}
use Rattle.explanation.specs.Explained.{reading_text}
use Rattle.explanation.proofs.put_explanation.Goals as goal

pub returns-in-Err : goal.returns-in-Err
returns-in-Err c =
    same (ap (λ x. reading_text x c.args.line1.now c.args.line2.now) (passed_up _ _ c.read_form.ensures c.in-Err.is))
    c.put_reading.ensures

pub returns : goal.returns
returns c =
    same (ap (λ x. reading_text x c.args.line1.now c.args.line2.now) (gone_on_lem _ _ c.read_form.ensures c.in-Ok.is c.read_meaning.ensures))
    c.put_reading-2.ensures
