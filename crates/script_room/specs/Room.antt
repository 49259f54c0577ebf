-- The lengths of a script's requests: the times that they take, and the rooms that they need. Definitions only.
use Rattle.std.specs.Prelude.{ℕ, zero, suc, ◌+◌, ◌-◌, ◌/◌, Bool, true, ◌&&◌, List, [], ◌∷◌, length, leb, ltb}

-- a request is 0, one time; 1, a call for windows; or n + 2, a list of n times; this many times it takes
unfoldable pub taken : ℕ → ℕ
taken zero = 1
taken (suc zero) = 0
taken (suc (suc n)) = n

unfoldable pub needed : List ℕ → ℕ
needed [] = 0
needed (n ∷ ns) = taken n + needed ns

-- whether a room of so many rows has one for each single request, where every list before it fills its own; a list for which
-- too few are left is refused with 17, and the script goes on
unfoldable pub roomy : List ℕ → ℕ → Bool
roomy [] room = true
roomy (zero ∷ ns) room = ltb 0 room && roomy ns (room - 1)
roomy (suc n ∷ ns) room = roomy ns (room - taken (suc n))

-- whether the times suffice, and the rooms for the row of each single request and for the strides of each request
unfoldable pub room_for : List ℕ → ℕ → ℕ → ℕ → ℕ → ℕ → Bool
room_for ns t a b c d = leb (needed ns) t && roomy ns a && roomy ns (b / 6) && roomy ns c && leb (length ns) d

-- whether n requests have three numbers each in p and in q, for a station and for its samples, and a place in e for how many windows they gave
unfoldable pub calls_for : ℕ → ℕ → ℕ → ℕ → Bool
calls_for n p q e = leb n (p / 3) && leb n (q / 3) && leb n e

-- whether a script can be run: times, rooms, and what its calls ask
unfoldable pub suffices : List ℕ → ℕ → ℕ → ℕ → ℕ → ℕ → ℕ → ℕ → ℕ → Bool
suffices ns t a b c d p q e = room_for ns t a b c d && calls_for (length ns) p q e

-- the rows that a request must have room for
abbrev pub due : ℕ → ℕ
due zero = 1
due (suc n) = 0
