-- Worked examples of the definitions, each by computation.
use Rattle.std.specs.Prelude.{◌≡◌, refl, Err}
use Rattle.text.specs.Output.{bytes, spell}
use Rattle.roster.specs.Roster.{same}
use Rattle.roster_calls.specs.declared.WithdrawalRefusal.TheVariants as withdrawal
use Rattle.roster_words.specs.Command.{command_of}
use Rattle.roster_words.specs.Answers.{named_text, withdrawal_text}
use Rattle.roster_words.specs.declared.Command.TheVariants.{Withdraw, Unknown}

withdraws : command_of (bytes "withdraw") ≡ Withdraw
unfolding command_of same
withdraws = refl

-- no word is taken for the beginning of another
longer : command_of (bytes "lodged") ≡ Unknown
unfolding command_of same
longer = refl

absent : withdrawal_text (Err withdrawal.Absent) 5 ≡ bytes "refusal 21: the roster has no pair of satellite 5.\n"
unfolding withdrawal_text named_text spell
absent = refl
