use Rattle.windows.proofs.Scanning.{room_by, wrote, kept}
use Rattle.windows.proofs.put.Goals as goal

pub bounds-firsts-n : goal.bounds-firsts-n
bounds-firsts-n c = room_by _ _ _ c.requires.on_in_bounds c.if-r.true

pub bounds-lasts-n : goal.bounds-lasts-n
bounds-lasts-n c = room_by _ _ _ c.requires.on_in_bounds_2 c.if-r.true

pub returns-then-r : goal.returns-then-r
returns-then-r c = wrote _ _ _ _ c.if-r.true

pub returns : goal.returns
returns c = kept _ _ _ _ c.if-r.false
