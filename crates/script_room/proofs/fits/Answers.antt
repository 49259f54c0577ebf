use Rattle.std.proofs.Common.{arith}
use Rattle.script_room.proofs.Room.{fits_none, fits_more, fits_not, fits_all}
use Rattle.script_room.proofs.fits.Goals as goal

pub loop-length-init : goal.loop-length-init
loop-length-init c = fits_none c.args.lengths.now c.args.room

pub returns-then-left-n : goal.returns-then-left-n
returns-then-left-n c =
    let l = c.loop-length in
    fits_not c.args.lengths.now c.args.room l.left l.length-index 0 c.taken-n.result l.invariant (omega arith) c.taken-n.ensures c.if-left-n.true

pub loop-length-preserved : goal.loop-length-preserved
loop-length-preserved c =
    let l = c.loop-length in
    fits_more c.args.lengths.now c.args.room l.left l.length-index 0 c.taken-n.result l.invariant (omega arith) c.taken-n.ensures c.if-left-n.false

pub returns : goal.returns
returns c = fits_all _ _ _ _ c.loop-length.invariant (omega arith) (omega arith)
