use mathlib.Core.Path.{◌≡◌, ap, ◌∙◌}
use lib.ListN.{take}
use Rattle.tle.specs.declared.Line.TheVariants.{One, Two}
use Rattle.tle_writer.specs.Lines.{closed_of, line_of}
use Rattle.tle_writer.proofs.Writes.{columns}
use Rattle.tle_writer.proofs.lines.line_of.Goals as goal

pub returns-in-One : goal.returns-in-One
unfolding line_of
returns-in-One c =
    let e : c.args.which ≡ One = cc in
    rw e (c.closed.ensures ∙ ap closed_of (ap (take 68) c.body1.ensures ∙ columns One c.args.r))

pub returns-in-Two : goal.returns-in-Two
unfolding line_of
returns-in-Two c =
    let e : c.args.which ≡ Two = cc in
    rw e (c.closed-in-Two.ensures ∙ ap closed_of (ap (take 68) c.body2.ensures ∙ columns Two c.args.r))
