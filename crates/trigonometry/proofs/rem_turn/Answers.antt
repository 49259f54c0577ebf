use mathlib.Core.Path.{◌≡◌, sym, ap, ◌∙◌, subst}
use lib.Dec.{T}
use lib.Ieee.{binary64, fits, neg}
use Rattle.trigonometry.specs.Trig.{turned}
use Rattle.floats.proofs.Literals.{literal}
use Rattle.trigonometry.proofs.Remainder.{rem_small, rem_once}
use Rattle.trigonometry.proofs.Turns.{neg_turned, other_side_lem}
use Rattle.trigonometry.proofs.rem_turn.Tie as tie
use Rattle.trigonometry.proofs.rem_turn.Lts as lts
use Rattle.trigonometry.proofs.rem_turn.Reads as reads
use Rattle.trigonometry.proofs.rem_turn.Goals as goal

held : (c : (lts.Start tie.the-claims reads.Pre reads.Post)) → T (fits binary64 c.args.x)
held c = subst T (sym c.well_formed.0.1) tt

pub returns-then-x-2 : goal.returns-then-x-2
unfolding turned literal neg
returns-then-x-2 c =
    sym (rem_small binary64 c.before.before.args.x _ _ (held c.before.before) c.before.if-x.true c.if-x-2.true)

pub returns-then-x-3 : goal.returns-then-x-3
unfolding turned literal neg
returns-then-x-3 c =
    sym (rem_once binary64 c.before.before.before.args.x 884279719003554 45 c.before.before.if-x.true c.before.if-x-2.false c.if-x-3.true)

pub rem_whole-requires : goal.rem_whole-requires
unfolding literal
rem_whole-requires c = c.before.if-x-2.false

pub rem_whole-requires-2 : goal.rem_whole-requires-2
unfolding literal neg
rem_whole-requires-2 c = other_side_lem c.before.args.x c.if-x.false

pub returns : goal.returns
returns c = ap neg c.rem_whole-2.ensures ∙ neg_turned c.before.before.args.x

pub returns-then-x : goal.returns-then-x
returns-then-x c = c.rem_whole.ensures
