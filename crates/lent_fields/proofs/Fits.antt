-- The column of a refusal fits its bits: a form's by what reading has of it, and a meaning has none.
use mathlib.Core.Path.{◌≡◌, refl, ap, subst}
use mathlib.Core.List.{List}
use Prim.Native.Nat.{ℕ}
use lib.IntN.{ℤ}
use Rattle.tle.specs.Read.{form_of, given, meaning_of, ranged, read_of}
use Rattle.tle.specs.declared.Fields as tle
use Rattle.tle.specs.declared.Refusal.{Refusal}
use Rattle.std.specs.Prelude.{Err, None, Ok, Option, Result, Some}
use Rattle.tle.specs.declared.Record.{Record}
use Rattle.record_numbers.specs.declared.GivenRefusal.{GivenRefusal}
use Rattle.record_numbers.specs.declared.GivenRefusal.TheVariants as given_refusal
use Rattle.tle.proofs.Meaning.{either}
use Rattle.record_numbers.specs.Numbers.{given_of, judged_by, judged_of}
use Rattle.answers.specs.Refusals.{refusal_answer, in_bits}
use Rattle.answers.proofs.Columns.{ReadingFits, ranges_fit, fits_bits, read_in_bits}
use Rattle.lent_fields.specs.Fields.{cut_answer, meaning_answer}

pub form_in_bits : (line1 line2 : List ℕ) (why : Refusal) → form_of line1 line2 ≡ Err why → in_bits why ≡ why
unfolding read_of
form_in_bits line1 line2 why e = read_in_bits line1 line2 why (ap ranged e)

meaning_fits : (f : tle.Fields) → ReadingFits (meaning_of f)
unfolding meaning_of
meaning_fits f = either ReadingFits f.1 _ _ tt (ranges_fit f.0)

fitting : (x : Result Record Refusal) → ReadingFits x → cut_answer x ≡ meaning_answer (Some x)
unfolding cut_answer meaning_answer
fitting (Ok r) h = refl
fitting (Err why) h = ap refusal_answer (fits_bits why h)

abbrev JudgedFits : Option (Result Record Refusal) → Type 0
JudgedFits (Some x) = ReadingFits x
JudgedFits None = Unit {0}

given_fits : (g : Result Record GivenRefusal) → JudgedFits (judged_by g)
given_fits (Ok r) = meaning_fits (given r)
given_fits (Err given_refusal.NoClass) = tt
given_fits (Err given_refusal.TooShort) = tt

judged_fits : (ns : List ℤ) → JudgedFits (judged_of ns)
unfolding judged_of
judged_fits ns = given_fits (given_of ns)

pub whole : (ns : List ℤ) (x : Result Record Refusal) → judged_of ns ≡ Some x → cut_answer x ≡ meaning_answer (Some x)
whole ns x e = fitting x (subst JudgedFits e (judged_fits ns))
