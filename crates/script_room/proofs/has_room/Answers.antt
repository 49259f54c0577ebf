use mathlib.Core.Path.{sym, ◌∙◌}
use Rattle.script_room.proofs.Room.{short_1, short_2, short_3, short_4, short_5}
use Rattle.script_room.proofs.has_room.Goals as goal

-- src/lib.rt:180:9
pub returns-then-not-fits : goal.returns-then-not-fits
returns-then-not-fits c = short_1 _ _ _ _ _ _ (sym c.fits.ensures ∙ c.if-not-fits.true)

-- src/lib.rt:183:9
pub returns-then-not-roomy : goal.returns-then-not-roomy
returns-then-not-roomy c =
    short_2 _ _ _ _ _ _ (sym c.fits.ensures ∙ c.if-not-fits.false) (sym c.roomy.ensures ∙ c.if-not-roomy.true)

-- src/lib.rt:186:9
pub returns-then-not-roomy-2 : goal.returns-then-not-roomy-2
returns-then-not-roomy-2 c =
    short_3 _ _ _ _ _ _ (sym c.fits.ensures ∙ c.if-not-fits.false) (sym c.roomy.ensures ∙ c.if-not-roomy.false) (sym c.roomy-2.ensures ∙ c.if-not-roomy-2.true)

-- src/lib.rt:189:9
pub returns-then-not-roomy-3 : goal.returns-then-not-roomy-3
returns-then-not-roomy-3 c =
    short_4 _ _ _ _ _ _ (sym c.fits.ensures ∙ c.if-not-fits.false) (sym c.roomy.ensures ∙ c.if-not-roomy.false) (sym c.roomy-2.ensures ∙ c.if-not-roomy-2.false) (sym c.roomy-3.ensures ∙ c.if-not-roomy-3.true)

-- src/lib.rt:176:1
pub returns : goal.returns
returns c =
    short_5 _ _ _ _ _ _ (sym c.fits.ensures ∙ c.if-not-fits.false) (sym c.roomy.ensures ∙ c.if-not-roomy.false) (sym c.roomy-2.ensures ∙ c.if-not-roomy-2.false) (sym c.roomy-3.ensures ∙ c.if-not-roomy-3.false)
