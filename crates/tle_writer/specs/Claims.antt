-- What is claimed of the lines that are written. Proved in proofs/Round.antt, proofs/Writes.antt and proofs/Numbers.antt.
use Rattle.std.specs.Prelude.{ℕ, ◌<◌, ◌≡◌, ◌↔◌, true, List, length, Ok}
use Rattle.text.specs.Output.{bytes}
use Rattle.columns.specs.Layout.{Lawful}
use Rattle.tle.specs.Claims.{layout_of}
use Rattle.tle.specs.Catalogue.{catalogue_of}
use Rattle.tle.specs.Legal.{in_form, legal}
use Rattle.tle.specs.Read.{form_of, given, meaning_of, read_of}
use Rattle.tle.specs.declared.Record.{Record}
use Rattle.tle.specs.declared.Line.{Line}
use Rattle.tle.specs.declared.Line.TheVariants.{One, Two}
use Rattle.tle_writer.specs.Field.{number_places}
use Rattle.tle_writer.specs.Lines.{line_of}

-- demand 2: a legal record written and read is that record
abbrev pub ReturnTrip : Type 0
ReturnTrip = (r : Record) → legal r ≡ true → read_of (line_of One r) (line_of Two r) ≡ Ok r

-- document 02, wish 9: the fields that an accepted form yields are exactly those in form
abbrev pub FormsExactly : Type 0
FormsExactly = (r : Record) → (in_form r ≡ true) ↔ ((line1 : List ℕ) × (line2 : List ℕ) × (form_of line1 line2 ≡ Ok (given r)))

-- and judging the meaning of any fields gives exactly the legal records, each of its own fields
abbrev pub MeaningExactly : Type 0
MeaningExactly = (f r : Record) → (meaning_of (given f) ≡ Ok r) ↔ ((f ≡ r) × (legal r ≡ true))

-- either line of a legal record keeps the layout by which it is read
abbrev pub WrittenAreLawful : Type 0
WrittenAreLawful = (which : Line) (r : Record) → legal r ≡ true → Lawful (layout_of which) (line_of which r)

-- each line is 69 bytes, of any record
abbrev pub LinesLong : Type 0
LinesLong = (which : Line) (r : Record) → length (line_of which r) ≡ 69

-- document 02, wish 1: the five places of a catalogue number up to 339999 show that number
abbrev pub NumbersReadBack : Type 0
NumbersReadBack = (n : ℕ) → n < 340000 → catalogue_of (number_places n) ≡ n

-- and five lawful places are those that are written of their number: it has no other form
abbrev pub PlacesWrittenBack : Type 0
PlacesWrittenBack = (places : List ℕ) → Lawful (bytes "NDDDD") places → number_places (catalogue_of places) ≡ places
