use mathlib.Core.Path.{ap, ◌∙◌}
use Rattle.tle_writer.specs.Write.{number_of}
use Rattle.lent_pairs.proofs.Records.{line_one, line_two, line_none}
use Rattle.lent_pairs.proofs.put_line.Goals as goal

pub returns-then-line-eq1 : goal.returns-then-line-eq1
returns-then-line-eq1 c =
    let a = c.args in
    let both = line_one a.r a.line a.out.now c.if-line-eq1.true (c.writing_number.ensures ∙ ap number_of c.fill_line.ensures.0) c.fill_line.ensures.1 in record { value = both.0; out_after = both.1 }

pub returns-then-line-eq2 : goal.returns-then-line-eq2
returns-then-line-eq2 c =
    let a = c.args in
    let both = line_two a.r a.line a.out.now c.if-line-eq1.false c.if-line-eq2.true (c.writing_number-then-line-eq2.ensures ∙ ap number_of c.fill_line-then-line-eq2.ensures.0) c.fill_line-then-line-eq2.ensures.1 in record { value = both.0; out_after = both.1 }

pub returns : goal.returns
returns c =
    let a = c.args in
    let both = line_none a.r a.line a.out.now c.if-line-eq1.false c.if-line-eq2.false in record { value = both.0; out_after = both.1 }
