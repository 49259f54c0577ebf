use mathlib.Core.Path.{ap, ◌∙◌}
use native.Mathlib.Omega.{arith}
use mir.Syntax.{w64}
use mir.Val.{SFits}
use mir.ValLaws.{to_z-of_z}
use Rattle.tle_writer.specs.Over.{over}
use Rattle.tle_writer.proofs.Bodies.{built1}
use Rattle.tle_writer.proofs.lines.body1.Tie as tie
use Rattle.tle_writer.proofs.lines.body1.Lts as lts
use Rattle.tle_writer.proofs.lines.body1.Reads as reads
use Rattle.tle_writer.proofs.lines.body1.Goals as goal

ndot : (c : (lts.After-struct_told tie.the-claims reads.Pre reads.Post)) → SFits w64 c.args.r.ndot
ndot c = record { sfits = omega arith }

pub returns : goal.returns
returns c =
    let k = c.before.before.before.before in
    let r = c.args.r in
    c.put_right.ensures.is ∙ ap (over 64 4 _) (
    c.put_at-l-2.ensures.is ∙ ap (over 62 1 _) (
    c.put_scaled-l-2.ensures.is ∙ ap (over 53 8 _) (
    c.put_scaled-l.ensures.is ∙ ap (over 44 8 _) (
    c.put_fraction-l.ensures.is ∙ rw (to_z-of_z w64 r.ndot (ndot k.before)) (ap (over 33 10 _) (
    c.put_day-l.ensures.is ∙ ap (over 20 12 _) (
    c.put_at-l.ensures.is ∙ ap (over 18 2 _) (
    c.put_designator-l.ensures.is ∙ ap (over 9 8 _) (
    c.put_byte-l-2.ensures.is ∙ rw c.letter.ensures (ap (over 7 1 _) (
    c.put_number-l.ensures.is ∙ ap (over 2 5 _) c.put_byte-l.ensures.is)))))))))))
    ∙ built1 r
