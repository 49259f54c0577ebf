-- Request lines, each by computation.
use Rattle.std.specs.Prelude.{◌≡◌, refl, [], ◌∷◌, true, pos, negsuc}
use Rattle.text.specs.Output.{bytes}
use Rattle.request_line.specs.declared.Request.TheVariants.{One, List as ListOf, TooMany, Malformed}
use Rattle.request_line.specs.Times.{signed, read_on, times_of, count_of, limit}
use Rattle.request_line.specs.Request.{begun, single_of, several_of, request_of}

times : times_of (bytes "1440 -720") ≡ record { values = pos 1440 ∷ negsuc 719 ∷ []; good = true }
unfolding read_on signed
times = refl

far : times_of (bytes "123456789012345678901234567890") ≡ record { values = pos limit ∷ []; good = true }
unfolding read_on signed
far = refl

one : request_of (bytes "one -5") 1100 ≡ One
unfolding request_of begun count_of read_on signed single_of
one = refl

none : request_of (bytes "list") 1100 ≡ ListOf 0
unfolding request_of begun
none = refl

three : request_of (bytes "list 1 -2 3") 1100 ≡ ListOf 3
unfolding request_of begun count_of read_on signed several_of
three = refl

too_many : request_of (bytes "list 1 2 3") 2 ≡ TooMany
unfolding request_of begun count_of read_on signed several_of
too_many = refl

two_for_one : request_of (bytes "one 1 2") 1100 ≡ Malformed
unfolding request_of begun count_of read_on signed single_of
two_for_one = refl

two_blanks : request_of (bytes "list 1  2") 1100 ≡ Malformed
unfolding request_of begun count_of read_on signed several_of
two_blanks = refl

two_signs : request_of (bytes "one --1") 1100 ≡ Malformed
unfolding request_of begun count_of read_on signed
two_signs = refl
