-- Lines of `station_windows`, each by computation.
use Rattle.std.specs.Prelude.{◌≡◌, refl, ◌++◌, None}
use Rattle.std.specs.Float.Ieee.{neg}
use Rattle.text.specs.Output.{bytes}
use Rattle.request_line.specs.Request.{begun}
use Rattle.instant.specs.Quantity.{decimal_of}
use Rattle.station_text.specs.Words.{cut_at, behind, pushed, digits_on, whole_in, start_from, start_of, formed, micro_of, signed_of, sign_size, decimal_in, station_from, station_of}
use Rattle.station_call.specs.declared.Place.TheVariants as place
use Rattle.station_call.specs.Call.{over, geodetic_from, geodetic_of, place_of, call_of, samples_from, samples_of, faults_text}

greenwich : place_of (bytes "geodetic 51.4779 -0.0015 46 10") ≡ over (decimal_of 51477900 6) (neg (decimal_of 1500 6)) (decimal_of 46000000 6) (decimal_of 10000000 6)
unfolding place_of begun geodetic_of geodetic_from decimal_in signed_of sign_size micro_of cut_at behind formed digits_on pushed station_of station_from
greenwich = refl

earth_fixed : place_of (bytes "3980.574 0 -4966") ≡ place.Fixed (decimal_of 3980574000 6) (decimal_of 0 6) (neg (decimal_of 4966000000 6))
unfolding place_of begun decimal_in signed_of sign_size micro_of cut_at behind formed digits_on pushed station_of station_from
earth_fixed = refl

four_numbers_alone : place_of (bytes "51.4779 -0.0015 46 10") ≡ place.Unread
unfolding place_of begun decimal_in signed_of sign_size micro_of cut_at behind formed digits_on pushed station_of station_from
four_numbers_alone = refl

no_elevation : place_of (bytes "geodetic 51.4779 -0.0015 46") ≡ place.Unread
unfolding place_of begun geodetic_of geodetic_from decimal_in signed_of sign_size micro_of cut_at behind formed digits_on pushed station_of station_from
no_elevation = refl

three_bad_lines : faults_text (call_of (bytes "geodetic N51") (bytes "2006-06-26") (bytes "60") (bytes "1.5"))
    ≡ bytes "line 3: no station\n" ++ (bytes "line 4: no start\n" ++ bytes "line 6: no number of samples\n")
unfolding faults_text call_of place_of begun geodetic_of geodetic_from decimal_in signed_of sign_size micro_of cut_at behind formed digits_on pushed whole_in station_of station_from start_of start_from
three_bad_lines = refl

no_samples : samples_of (call_of (bytes "0 0 1") (bytes "2006 177 0") (bytes "") (bytes "10")) ≡ None
unfolding samples_of samples_from call_of whole_in digits_on pushed
no_samples = refl
