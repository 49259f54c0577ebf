-- The word that says what a roster's program has to do.
use Rattle.std.specs.Prelude.{ℕ, cond, List}
use Rattle.text.specs.Output.{bytes}
use Rattle.roster.specs.Roster.{same}
use Rattle.roster_words.specs.declared.Command as c
use Rattle.roster_words.specs.declared.Command.TheVariants.{Lodge, Withdraw, List as ListAll, Unknown}

unfoldable pub command_of : List ℕ → c.Command
command_of word =
    cond (same word (bytes "lodge")) Lodge
    (cond (same word (bytes "withdraw")) Withdraw
    (cond (same word (bytes "list")) ListAll Unknown))
