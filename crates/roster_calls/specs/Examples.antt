-- Worked examples, proved by computation.
use Rattle.std.specs.Prelude.{◌≡◌, refl, [], ◌∷◌, Err, Ok}
use Rattle.std.proofs.Math.Option.{some}
use Rattle.instant.specs.Calendar.{days_in, days_before, epoch_micros}
use Rattle.roster.specs.Records.{lookup, instant_of}
use Rattle.roster.specs.Examples.{at}
use Rattle.roster_calls.specs.Calls.{ruling, leaving}
use Rattle.roster_calls.specs.declared.LodgingRefusal.TheVariants as lodging

-- an epoch one unit of the last digit older is refused, an equal one replaces
older : ruling (at 5 2000 19999999999) (at 5 2000 20000000000 ∷ []) ≡ Err lodging.Older
unfolding lookup instant_of epoch_micros days_before days_in
older = refl

equal : ruling (at 5 2000 20000000000) (at 5 2000 20000000000 ∷ []) ≡ Ok tt
unfolding lookup instant_of epoch_micros days_before days_in
equal = refl

-- epochs are instants: the last unit of 1999 is older than the first of 2000
new_year : ruling (at 5 1999 36599999999) (at 5 2000 100000000 ∷ []) ≡ Err lodging.Older
unfolding lookup instant_of epoch_micros days_before days_in
new_year = refl

-- document 02, wish 8: a pair of the instant 0 is no empty place: a later one replaces it, and it can be withdrawn
zero_replaced : ruling (at 5 1957 100000001) (at 5 1957 100000000 ∷ []) ≡ Ok tt
unfolding lookup instant_of epoch_micros days_before days_in
zero_replaced = refl

zero_older : ruling (at 5 1957 100000000) (at 5 1957 100000001 ∷ []) ≡ Err lodging.Older
unfolding lookup instant_of epoch_micros days_before days_in
zero_older = refl

zero_withdrawn : leaving 5 (some (at 5 1957 100000000 ∷ [])) ≡ Ok tt
unfolding lookup
zero_withdrawn = refl
