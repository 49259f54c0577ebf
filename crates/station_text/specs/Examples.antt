-- Lines of `station_windows`, each by computation.
use Rattle.std.specs.Prelude.{◌≡◌, refl, true, [], None, Some}
use Rattle.text.specs.Output.{bytes}
use Rattle.station_text.specs.Words.{bad, cut_at, behind, formed, pushed, digits_on, whole_in, number_of, most_whole, micro_of}

zeros_first : number_of (bytes "00060") ≡ Some 60
unfolding number_of whole_in digits_on pushed
zeros_first = refl

above_the_most : number_of (bytes "1000000000000000000") ≡ Some most_whole
unfolding number_of whole_in digits_on pushed
above_the_most = refl

no_digits : number_of [] ≡ None
unfolding number_of whole_in
no_digits = refl

three_places : micro_of (bytes "3980.574") ≡ record { good = true; value = 3980574000 }
unfolding micro_of cut_at behind formed digits_on pushed
three_places = refl

no_point : micro_of (bytes "7") ≡ record { good = true; value = 7000000 }
unfolding micro_of cut_at behind formed digits_on pushed
no_point = refl

nothing_behind_the_point : micro_of (bytes "1.") ≡ bad
unfolding micro_of cut_at behind formed digits_on pushed
nothing_behind_the_point = refl

ten_digits : micro_of (bytes "1234567890") ≡ bad
unfolding micro_of cut_at behind formed digits_on pushed
ten_digits = refl
