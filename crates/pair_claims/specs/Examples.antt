-- Worked examples of the definitions, each by computation.
use Prim.Native.String.{String}
use Rattle.std.specs.Prelude.{◌≡◌, refl, List, [], ◌∷◌, length}
use Rattle.text.specs.Output.{bytes}
use Rattle.pair_lines.specs.Sort.{all_blank, begins, sort_of}
use Rattle.pair_steps.specs.Fate.{fate_of, fate_in}
use Rattle.pair_steps.specs.Steps.{started, step_of}
use Rattle.pair_claims.specs.Claims.{Line, waiting_number, told_by, told}

-- a line that its room holds
abbrev line : String → Line
line s = record { size = length (bytes s); room = bytes s }

-- a name, a line 1, a blank line, its line 2, and a line 1 that nothing follows
five_lines : told started (line "VANGUARD 1" ∷ line "1 00005U" ∷ line "" ∷ line "2 00005" ∷ line "1 00006U" ∷ []) ≡ 1 ∷ 3 ∷ 2 ∷ 4 ∷ 5 ∷ []
unfolding told told_by waiting_number step_of fate_in fate_of sort_of all_blank begins
five_lines = refl

-- a line 1 is given up for the next
two_firsts : told started (line "1 00005U" ∷ line "1 00006U" ∷ line "2 00006" ∷ []) ≡ 1 ∷ 2 ∷ 3 ∷ []
unfolding told told_by waiting_number step_of fate_in fate_of sort_of all_blank begins
two_firsts = refl
