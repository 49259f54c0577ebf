-- Lines of a plan, each by computation.
use Rattle.std.specs.Prelude.{◌≡◌, refl, true, false, Err}
use Rattle.text.specs.Output.{bytes, spell}
use Rattle.request_line.specs.Request.{begun}
use Rattle.number_list.specs.Numbers.{read_on, numbers_of, count_of}
use Rattle.award.specs.declared.AwardRefusal.TheVariants as answer
use Rattle.award_text.specs.Text.{started, unread, label_of, in_place, advanced, placed, taken}
use Rattle.award_text.specs.Print.{refusal_at_text, answer_text}

an_offer : taken started (bytes "offer 1 0 86400000000 5") 1282 ≡ record { at = 4; offers = 4; entries = 0; stage = 0; taken = true; faulty = false; long = false }
unfolding taken label_of begun numbers_of read_on count_of in_place placed advanced
an_offer = refl

no_entries : taken started (bytes "entries") 1282 ≡ record { at = 0; offers = 0; entries = 0; stage = 1; taken = true; faulty = false; long = false }
unfolding taken label_of begun numbers_of read_on count_of in_place placed advanced
no_entries = refl

three_numbers_lem : taken started (bytes "offer 1 0 86400000000") 1282 ≡ unread started
unfolding taken label_of begun numbers_of read_on count_of in_place placed advanced
three_numbers_lem = refl

total_too_early : taken started (bytes "total 5") 1282 ≡ unread started
unfolding taken label_of begun numbers_of read_on count_of in_place placed advanced
total_too_early = refl

clash_printed : answer_text (Err (answer.Clash 255)) ≡ bytes "refused 30 255\n"
unfolding answer_text refusal_at_text spell
clash_printed = refl
