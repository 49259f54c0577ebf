use mathlib.Core.Path.{sym, ap}
use Rattle.text.proofs.Pieces.{same}
use Rattle.explanation.specs.Explained.{reading_text}
use Rattle.explanation.proofs.put_reading.Goals as goal

pub returns-in-Ok : goal.returns-in-Ok
unfolding reading_text
returns-in-Ok c =
    let g = c.in-Ok.is in
    same (sym (ap (λ w. reading_text w c.args.line1.now c.args.line2.now) g)) c.put_opened.ensures

pub returns-in-Err : goal.returns-in-Err
unfolding reading_text
returns-in-Err c =
    let g = c.in-Err.is in
    same (sym (ap (λ w. reading_text w c.args.line1.now c.args.line2.now) g)) c.put_fault.ensures
