-- Room made for w elements of a list, and closed again. Cited by the contracts inside the crate only.
use Rattle.std.specs.Prelude.{ℕ, ◌+◌, ◌-◌, List, ◌++◌, length, take, drop, replicate}

-- the elements after the first at moved up by w, so that the last w are lost; what stood in the gap stays there
unfoldable pub opened : {A : Type 0} → ℕ → ℕ → List A → List A
opened at w l = take (at + w) l ++ take (length l - (at + w)) (drop at l)

-- the elements behind the w after the first at moved down over them; the last w stay where they are, too
unfoldable pub moved_down : {A : Type 0} → ℕ → ℕ → List A → List A
moved_down at w l = take at l ++ drop (at + w) l ++ drop (length l - w) l

-- the w elements after the first at taken out, those behind them moved down, and zeros after
unfoldable pub closed : ℕ → ℕ → List ℕ → List ℕ
closed at w l = take at l ++ drop (at + w) l ++ replicate w 0
