-- Document 02, wish 1: the first place of a catalogue number (Alpha-5): a digit, or a letter A-Z without I and O, standing for 10 to 33.
use Rattle.std.specs.Prelude.{ℕ, suc, List, [], ◌∷◌, cond, eqb}
use Rattle.text.specs.Output.{bytes}

-- the bytes of a first place, each at the position of the number that it stands for
abbrev pub first_places : List ℕ
first_places = bytes "0123456789ABCDEFGHJKLMNPQRSTUVWXYZ"

-- the position of b in a list whose first element has position n; 0 where b is not in it
unfoldable pub position : ℕ → ℕ → List ℕ → ℕ
position n b [] = 0
position n b (c ∷ cs) = cond (eqb b c) n (position (suc n) b cs)

-- what a first place stands for
unfoldable pub first_of : ℕ → ℕ
first_of b = position 0 b first_places
