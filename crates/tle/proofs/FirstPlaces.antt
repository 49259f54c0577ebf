-- What class N asks, and that every byte which it does not take is refusal 3 at column 3.
use Prim.Native.Nat.{ℕ}
use mathlib.Core.Path.{◌≡◌, ◌∙◌}
use mathlib.Core.List.{List, ◌∷◌, ◌++◌}
use mathlib.Core.Bool.{Bool, true, false, and-false, or-false}
use lib.ListN.{length}
use Rattle.text.specs.Output.{bytes}
use Rattle.columns.specs.Layout.{opens_number, fits, agreed, layout1, layout2}
use Rattle.tle.specs.Read.{verdict_of, pair_of, form_of, read_of}
use Rattle.tle.specs.Claims.{OtherFirstPlaces}
use Rattle.tle.specs.declared.Line.TheVariants.{One, Two}
use Rattle.tle.specs.declared.Refusal.TheVariants.{Column}
use Rattle.std.specs.Prelude.{Err}

pub fits_N : (a : Bool) (b : ℕ) → fits 78 a b ≡ opens_number b
fits_N a b = simp (and-false, or-false)

module _ (b : ℕ) (rest : List ℕ) (long : length rest ≡ 66) (o : opens_number b ≡ false) where
  stops1 : agreed layout1 true (bytes "1 " ++ (b ∷ rest)) ≡ 2
  unfolding agreed
  stops1 = rw (fits_N true b ∙ o)

  stops2 : agreed layout2 true (bytes "2 " ++ (b ∷ rest)) ≡ 2
  unfolding agreed
  stops2 = rw (fits_N true b ∙ o)

  refused1 : verdict_of One layout1 (bytes "1 " ++ (b ∷ rest)) ≡ Err (Column One 3)
  unfolding verdict_of
  refused1 = rw (long, stops1)

  refused2 : verdict_of Two layout2 (bytes "2 " ++ (b ∷ rest)) ≡ Err (Column Two 3)
  unfolding verdict_of
  refused2 = rw (long, stops2)

pub other_first_places : OtherFirstPlaces
unfolding read_of form_of pair_of
other_first_places = record {
  one = λ b rest line2 long o. rw (refused1 b rest long o);
  two = λ line1 b rest lawful long o. rw (lawful, refused2 b rest long o);
}
