-- The numbers and values of a script's answer.
use mathlib.Core.Path.{refl}
use Rattle.std.specs.Prelude.{Err, Ok}
use Rattle.opening.specs.declared.opening.PairRefusal.TheVariants as pair
use Rattle.opening.specs.Opening.{pair_number, pair_values}
use Rattle.script.specs.Script.{ran_of, ran_number, ran_values, AsOpening}

pub as_opening : AsOpening
unfolding ran_of ran_number ran_values pair_number pair_values
as_opening (Ok s) = (refl, refl)
as_opening (Err (pair.Unread why)) = (refl, refl)
as_opening (Err (pair.Refused why)) = (refl, refl)
