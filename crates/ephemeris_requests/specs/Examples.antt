-- Worked examples: the definitions compute.
use Rattle.std.specs.Prelude.{◌≡◌, refl, true, false, pos, negsuc}
use Rattle.text.specs.Output.{bytes, spell}
use Rattle.request_line.specs.Times.{signed}
use Rattle.request_line.specs.Request.{begun, request_of}
use Rattle.station_text.specs.Words.{cut_at, behind, formed, pushed, digits_on, whole_in, micro_of, sign_size}
use Rattle.ephemeris_requests.specs.declared.Fault.TheVariants as fault
use Rattle.ephemeris_requests.specs.declared.Ask.TheVariants as ask
use Rattle.ephemeris_requests.specs.Requests.{signed_in, lawful, grid_from, grid_of, time_at, other_of, ask_of, commas_in, fault_text}

a_grid : ask_of (bytes "grid -60 0.5 240") 1100 ≡ ask.Steps (record { minus = true; start = 60000000; step = 500000; count = 240 })
unfolding ask_of request_of other_of begun grid_of grid_from lawful signed_in sign_size micro_of whole_in cut_at behind formed digits_on pushed
a_grid = refl

no_step : ask_of (bytes "grid 0 0 240") 1100 ≡ ask.Bad fault.Grid
unfolding ask_of request_of other_of begun grid_of grid_from lawful signed_in sign_size micro_of whole_in cut_at behind formed digits_on pushed
no_step = refl

no_word : ask_of (bytes "rows 1 2 3") 1100 ≡ ask.Bad fault.Request
unfolding ask_of request_of other_of begun
no_word = refl

before_the_epoch : time_at (record { minus = true; start = 60000000; step = 500000; count = 240 }) 119 ≡ negsuc 499999
unfolding time_at signed
before_the_epoch = refl

at_the_epoch : time_at (record { minus = true; start = 60000000; step = 500000; count = 240 }) 120 ≡ pos 0
unfolding time_at signed
at_the_epoch = refl

commas : commas_in (bytes "commas") ≡ true
unfolding commas_in begun
commas = refl

more_than_commas : commas_in (bytes "commas,") ≡ false
unfolding commas_in begun
more_than_commas = refl

bad_line : fault_text 12 fault.Request ≡ bytes "line 12: no request\n"
unfolding fault_text spell
bad_line = refl
