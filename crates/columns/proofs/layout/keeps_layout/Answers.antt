use mathlib.Core.Path.{sym, ◌∙◌}
use native.Mathlib.Omega.{arith}
use Rattle.columns.proofs.Columns.{kept_all}
use Rattle.columns.proofs.ThreeSame.{plain_more, three}
use Rattle.columns.proofs.layout.keeps_layout.Goals as goal

pub loop-i-init : goal.loop-i-init
loop-i-init c = λ e. three _ _ c.requires.0 c.requires.1 (sym c.begins_as-keeps.ensures ∙ e)

pub loop-i-preserved : goal.loop-i-preserved
loop-i-preserved c = plain_more _ _ c.requires.0 c.requires.1 _ _ _ c.fits_plain-keeps.ensures (omega arith) c.loop-i.invariant

pub returns : goal.returns
returns c = kept_all _ _ c.requires.0 _ _ c.loop-i-test.false (omega arith) c.loop-i.invariant
