-- Wish 14: the worked orders.
use mathlib.Core.Path.{◌≡◌, refl, ◌∙◌}
use mathlib.Core.Bool.{true}
use mathlib.Core.List.{List, [], ◌∷◌}
use Prim.Native.Nat.{◌+◌}
use lib.ListN.{length}
use Rattle.satellite.specs.declared.Integrator.{Integrator}
use Rattle.resonance.specs.declared.place.Side.TheVariants.{Forward, Back}
use Rattle.resonance.specs.Place.{epoch_of}
use Rattle.resonance.specs.Time.{resonant, whole_strides, in_range}
use Rattle.sgp4.specs.Sgp4.{integrator_of}
use Rattle.tle.specs.declared.Record.{Record}
use Rattle.opening.specs.declared.opening.Satellite.{Satellite}
use Rattle.std.specs.Prelude.{Ok}
use Rattle.opening.specs.Opening.{open_of}
use Rattle.requests.specs.Lists.{list_refusal}
use Rattle.sequences.specs.Demand3.{none, counts_of}
use Rattle.sequences.proofs.Demand3.{opened_place}
use Rattle.orders.specs.Best.{farthest_on}
use Rattle.orders.specs.Examples.{Example, examples, Each}
use Rattle.orders.proofs.Best.{strides}

-- the same of the times alone
Counted : Integrator → List Example → Type 0
Counted i [] = Unit {0}
Counted i (x ∷ xs) =
    (list_refusal (length x.times) 1024 6144 1024 ≡ 0) × (counts_of i none x.times ≡ x.taken)
    × (whole_strides i (farthest_on Forward x.times) + whole_strides i (farthest_on Back x.times) ≡ x.least) × Counted i xs

counts : (i : Integrator) → resonant i.resonance ≡ true → Counted i examples
unfolding examples Counted whole_strides in_range list_refusal
counts i h = (refl, rw h, rw h, (refl, rw h, rw h, (refl, rw h, rw h, (refl, rw h, rw h, (refl, rw h, rw h, (refl, rw h, rw h, tt))))))

each : (s : Satellite) → s.place ≡ epoch_of (integrator_of s.model) → (xs : List Example) → Counted (integrator_of s.model) xs → Each s xs
unfolding Counted Each
each s e [] c = tt
each s e (x ∷ xs) c = (strides s e x.times 1024 6144 1024 c.0 ∙ c.1, c.2, each s e xs c.3)

pub examples_hold : (r : Record) (s : Satellite) → open_of r ≡ Ok s → resonant (integrator_of s.model).resonance ≡ true → Each s examples
examples_hold r s o h = each s (opened_place r s o) examples (counts (integrator_of s.model) h)
