use Rattle.award_text.proofs.Lines.{line_taken}
use borrow.Author.Tests.{lt-ltb}
use Rattle.award_text.specs.Text.{taken, row_taken}
use Rattle.award_text.proofs.take_line.Goals as goal

pub returns-then-at-room : goal.returns-then-at-room
unfolding taken row_taken
returns-then-at-room c = (simp (lt-ltb _ _ c.if-at-room.true) c.bad.ensures, simp (lt-ltb _ _ c.if-at-room.true))

pub returns : goal.returns
returns c =
    let a = c.args in
    line_taken a.d a.line.now a.row.now _ c.label_of-label.result c.read_numbers-numbers.result c.after_line.result
    c.if-at-room.false c.label_of-label.ensures.0 c.read_numbers-numbers.ensures c.after_line.ensures
