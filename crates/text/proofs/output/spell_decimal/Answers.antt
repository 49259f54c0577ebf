use Rattle.text.proofs.Spell.{turn, end, fewer}
use lib.ListN.{length-set}
use mathlib.Core.Path.{sym, ◌∙◌}
use native.Mathlib.Omega.{arith}
use Rattle.text.proofs.output.spell_decimal.Goals as goal

pub loop-rest-preserved : goal.loop-rest-preserved
loop-rest-preserved c =
    let l = c.loop-rest in
    let f = fewer l.i l.rest (omega arith) l.invariant.3 in (
      omega arith,
      omega arith,
      simp length-set l.invariant.2,
      f.1,
      sym (turn l.i l.rest l.digits (omega arith) (omega arith) (omega arith)) ∙ l.invariant.4,
    )

pub returns : goal.returns
returns c =
    let l = c.loop-rest in
    (omega arith, sym (end l.i l.rest l.digits (omega arith) (omega arith) (omega arith)) ∙ l.invariant.4)
