use mathlib.Core.Path.{◌∙◌}
use Rattle.roster.proofs.Found.{off_length, of_length}
use Rattle.roster.proofs.scan.scan_buffer.Goals as goal

pub returns-then-b-ne8832 : goal.returns-then-b-ne8832
returns-then-b-ne8832 c = off_length c.args.number c.args.b.now c.if-b-ne8832.true

pub returns : goal.returns
returns c = c.scan_places.ensures ∙ of_length c.args.number c.args.b.now c.if-b-ne8832.false
