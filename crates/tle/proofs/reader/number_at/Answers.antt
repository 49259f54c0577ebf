use mathlib.Core.Path.{sym}
use Rattle.tle.proofs.Catalogue.{number_parts}
use Rattle.tle.proofs.reader.number_at.Goals as goal

pub returns : goal.returns
returns c =
    let start = c in
    rw (c.field_at.ensures.0, c.first_place.ensures.0) (sym (number_parts start.args.line.now start.requires))
