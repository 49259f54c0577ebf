-- Tests that hold together, and each of them.
use mathlib.Core.Path.{◌≡◌, refl, ap, ◌∙◌}
use mathlib.Core.Bool.{Bool, true, false, ◌&&◌}

pub both : (a b : Bool) → a ≡ true → b ≡ true → a && b ≡ true
both a b p q = ap (λ (x : Bool). x && b) p ∙ q

pub left : (a b : Bool) → a && b ≡ true → a ≡ true
left true b h = refl
left false b h = h

pub right : (a b : Bool) → a && b ≡ true → b ≡ true
right true b h = h
right false b h = cc

-- of five and of seven: those that `AllFinite` asks for
pub second_of_5 : (a b c d e : Bool) → a && b && c && d && e ≡ true → b ≡ true
second_of_5 a b c d e h = right a b (left (a && b) c (left (a && b && c) d (left (a && b && c && d) e h)))

pub fifth_of_5 : (a b c d e : Bool) → a && b && c && d && e ≡ true → e ≡ true
fifth_of_5 a b c d e h = right (a && b && c && d) e h

four_of_7 : (a b c d e f g : Bool) → a && b && c && d && e && f && g ≡ true → a && b && c && d ≡ true
four_of_7 a b c d e f g h = left (a && b && c && d) e (left (a && b && c && d && e) f (left (a && b && c && d && e && f) g h))

pub second_of_7 : (a b c d e f g : Bool) → a && b && c && d && e && f && g ≡ true → b ≡ true
second_of_7 a b c d e f g h = right a b (left (a && b) c (left (a && b && c) d (four_of_7 a b c d e f g h)))

pub fourth_of_7 : (a b c d e f g : Bool) → a && b && c && d && e && f && g ≡ true → d ≡ true
fourth_of_7 a b c d e f g h = right (a && b && c) d (four_of_7 a b c d e f g h)

-- the first of nine
pub first_of_9 : (a b c d e f g i j : Bool) → a && b && c && d && e && f && g && i && j ≡ true → a ≡ true
first_of_9 true b c d e f g i j h = refl
first_of_9 false b c d e f g i j h = h
