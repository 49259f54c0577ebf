use mathlib.Core.Path.{ap, ◌∙◌}
use Rattle.tle_writer.specs.Over.{over}
use Rattle.tle_writer.proofs.Bodies.{built2}
use Rattle.tle_writer.proofs.lines.body2.Goals as goal

pub returns : goal.returns
returns c =
    c.put_right.ensures.is ∙ ap (over 63 5 _) (
    c.put_pointed-l-5.ensures.is ∙ ap (over 52 11 _) (
    c.put_pointed-l-4.ensures.is ∙ ap (over 43 8 _) (
    c.put_pointed-l-3.ensures.is ∙ ap (over 34 8 _) (
    c.put_at-l.ensures.is ∙ ap (over 26 7 _) (
    c.put_pointed-l-2.ensures.is ∙ ap (over 17 8 _) (
    c.put_pointed-l.ensures.is ∙ ap (over 8 8 _) (
    c.put_number-l.ensures.is ∙ ap (over 2 5 _) c.put_byte-l.ensures.is)))))))
    ∙ built2 c.args.r
