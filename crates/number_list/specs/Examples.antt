-- Numbers in a row, each by computation.
use Rattle.std.specs.Prelude.{◌≡◌, refl, [], ◌∷◌, true, false}
use Rattle.text.specs.Output.{bytes}
use Rattle.number_list.specs.Numbers.{read_on, numbers_of, most_number}

none : numbers_of (bytes "") ≡ record { values = []; good = true }
unfolding numbers_of
none = refl

three : numbers_of (bytes " 0 07 256") ≡ record { values = 0 ∷ 7 ∷ 256 ∷ []; good = true }
unfolding numbers_of read_on
three = refl

largest : numbers_of (bytes " 18446744073709551615") ≡ record { values = most_number ∷ []; good = true }
unfolding numbers_of read_on
largest = refl

one_more : numbers_of (bytes " 5 18446744073709551616") ≡ record { values = 5 ∷ []; good = false }
unfolding numbers_of read_on
one_more = refl

two_blanks : numbers_of (bytes " 1  2") ≡ record { values = 1 ∷ []; good = false }
unfolding numbers_of read_on
two_blanks = refl

minus : numbers_of (bytes " -1") ≡ record { values = []; good = false }
unfolding numbers_of read_on
minus = refl
