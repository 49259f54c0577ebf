use Rattle.std.proofs.Common.{ap, ◌∙◌}
use Rattle.std.proofs.lemmas.List.Edits.{sets}
use Rattle.number_list.specs.Numbers.{Found, count_of}
use Rattle.number_list.proofs.Reading.{no_bytes, after_first, no_blank}
use Rattle.number_list.proofs.read_numbers.Goals as goal

pub returns-then-s-eq0 : goal.returns-then-s-eq0
returns-then-s-eq0 c = no_bytes c.args.s.now c.args.row.now c.if-s-eq0.true

pub returns-then-s-eq32 : goal.returns-then-s-eq32
returns-then-s-eq32 c =
    let e = after_first c.args.s.now c.if-s-eq0.false c.if-s-eq32.true in
    (c.read_on.ensures.0 ∙ ap count_of e, c.read_on.ensures.1 ∙ ap (λ (f : Found). sets c.args.row.now 0 f.values) e)

pub returns : goal.returns
returns c = no_blank c.args.s.now c.args.row.now c.if-s-eq0.false c.if-s-eq32.false
