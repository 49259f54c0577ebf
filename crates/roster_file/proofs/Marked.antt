-- A failure stays marked; so where none is marked at the end, none was before.
use mathlib.Core.Path.{◌≡◌, refl, sym, ◌∙◌}
use mathlib.Core.Bool.{Bool, true, false, false≢true}

pub unmarked : (a b : Bool) → (a ≡ true → b ≡ true) → b ≡ false → a ≡ false
unmarked true b h e = absurd (false≢true (sym e ∙ h refl))
unmarked false b h e = refl
