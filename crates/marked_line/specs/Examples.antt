-- Worked examples of the definitions, each by computation.
use Rattle.std.specs.Prelude.{◌≡◌, refl, ◌∷◌, ◌++◌}
use Rattle.text.specs.Output.{bytes, spell}
use Rattle.marked_line.specs.Marked.{visible, part, shown, marked, numbered, named}

comma_marked : marked 2 1 (bytes "34,2682") ≡ bytes "    34,2682\n" ++ bytes "      ^\n"
unfolding marked shown visible
comma_marked = refl

-- a tab takes one place
tab_shown : shown (9 ∷ bytes "AB") ≡ bytes "    ?AB\n"
unfolding shown visible
tab_shown = refl

columns_shown : part 2 5 (bytes "1 00005U") ≡ bytes "00005"
unfolding part visible
columns_shown = refl

comma_named : named 44 ≡ bytes "','"
unfolding named
comma_named = refl

blank_named : named 32 ≡ bytes "a blank"
unfolding named
blank_named = refl

other_named : named 195 ≡ bytes "byte 195"
unfolding named numbered spell
other_named = refl
