use Rattle.text.proofs.Spell.{glyph_turn, glyph_end}
use mathlib.Core.Path.{sym, ◌∙◌}
use native.Mathlib.Omega.{arith}
use Rattle.text.proofs.output.spell_places.Goals as goal

pub loop-i-preserved : goal.loop-i-preserved
loop-i-preserved c =
    let l = c.loop-i in
    sym (glyph_turn c.args.base l.i l.rest l.digits _ c.digit.ensures (omega arith) (omega arith)) ∙ l.invariant

pub returns : goal.returns
returns c = glyph_end _ _ _ _ _ c.loop-i-test.false c.loop-i.invariant
