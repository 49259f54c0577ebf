-- Worked examples, proved by computation.
use Rattle.std.specs.Prelude.{◌≡◌, refl, [], ◌∷◌, pos, negsuc}
use Rattle.text.specs.Output.{bytes, spell, signed, glyph, places}
use Rattle.tle.specs.Read.{letter}
use Rattle.tle.specs.declared.Class.TheVariants.{Unclassified, Classified}
use Rattle.tle.specs.declared.Designator.TheVariants.{Blank, Piece}
use Rattle.listing.specs.Listing.{trimmed, designator_text, scaled_text}
use Rattle.changes.specs.Entry.{Node, Motion, Classes, Designators, Epochs, Bstars, Counts}
use Rattle.changes.specs.Changes.{Field}
use Rattle.changes_text.specs.Text.{spelled}

-- a difference, positive and negative, and the fields that show both values
example : spelled
    (Field 5 (Classes Unclassified Classified)
    ∷ Field 5 (Designators (Piece 58002 66 32 32) Blank)
    ∷ Field 5 (Epochs (pos 864))
    ∷ Field 5 (Bstars (record { mantissa = pos 28098; exponent = negsuc 3 }) (record { mantissa = negsuc 28099; exponent = pos 0 }))
    ∷ Field 5 (Counts Node (negsuc 3599998))
    ∷ Field 339999 (Counts Motion (pos 1))
    ∷ [])
    ≡ bytes "5 class U C\n5 designator 58002B -\n5 epoch 864\n5 bstar 28098 -4 -28100 0\n5 node -3599999\n339999 motion 1\n"
unfolding spelled letter designator_text trimmed scaled_text places glyph signed spell
example = refl
