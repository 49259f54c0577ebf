-- Refusal 9 is given exactly to the times out of range; and document 01's worked counts of strides, together.
use mathlib.Core.Path.{◌≡◌, refl, ◌∙◌}
use mathlib.Core.Bool.{Bool, true, false, not}
use mathlib.Core.List.{List, [], ◌∷◌, map}
use Prim.Native.Nat.{ℕ}
use lib.Dec.{eqb}
use lib.IntN.{ℤ}
use Rattle.satellite.specs.declared.Integrator.{Integrator}
use Rattle.satellite.specs.declared.Model.{Model}
use Rattle.state.specs.declared.answer.Refusal.{Refusal}
use Rattle.state.specs.declared.answer.Refusal.TheVariants.{MeanMotion, MeanElements, Eccentricity, SemiLatusRectum, Decayed, NotFinite}
use Rattle.state.specs.Answer.{number}
use Rattle.resonance.specs.declared.place.Place.{Place}
use Rattle.resonance.specs.Place.{epoch_of}
use Rattle.resonance.specs.Time.{resonant, whole_strides, in_range}
use Rattle.sgp4.specs.Sgp4.{integrator_of}
use Rattle.sgp4.specs.Row.{refused_row, row_of}
use Rattle.sgp4.specs.Kept.{row_from}
use Rattle.tle.specs.declared.Record.{Record}
use Rattle.opening.specs.declared.opening.Satellite.{Satellite}
use Rattle.std.specs.Prelude.{Err, Ok, Result}
use Rattle.state.specs.declared.answer.State.{State}
use Rattle.opening.specs.Opening.{open_of}
use Rattle.requests.specs.Request.{choose, inside, outside, asked}
use Rattle.sequences.specs.Demand3.{One, counted, none, epoch}
use Rattle.sequences.specs.Edges.{Edge, edges, refused_nine, Each}
use Rattle.sequences.proofs.Demand3.{from_epoch, opened_place}

-- ── refusal 9 ──

not_nine : (why : Refusal) → eqb (number why) 9 ≡ false
unfolding number
not_nine MeanMotion = refl
not_nine MeanElements = refl
not_nine Eccentricity = refl
not_nine SemiLatusRectum = refl
not_nine Decayed = refl
not_nine NotFinite = refl

row_nine : (a : Result (State × ℕ) Refusal) → eqb (row_of a).refusal 9 ≡ false
unfolding row_of refused_row
row_nine (Ok (s, k)) = refl
row_nine (Err why) = not_nine why

nine_by : (k : Model) (p : Place) (t : ℤ) (b : Bool) → eqb (choose b (inside k p t) (outside p)).row.refusal 9 ≡ not b
unfolding row_from refused_row
nine_by k p t true = row_nine _
nine_by k p t false = refl

-- of any satellite
pub nine : (s : Satellite) (t : ℤ) → refused_nine s t ≡ not (in_range t)
unfolding asked
nine s t = nine_by s.model s.place t (in_range t)

-- ── the worked counts ──

nines : (s : Satellite) (ts : List ℤ) → map (refused_nine s) ts ≡ map (λ t. not (in_range t)) ts
nines s [] = refl
nines s (t ∷ ts) = rw (nine s t, nines s ts)

-- the same of the times alone, and of the count
Counted : ℕ → Integrator → List Edge → Type 0
Counted x i [] = Unit {0}
Counted x i (e ∷ es) = (map (λ t. not (in_range t)) e.times ≡ e.nine) × (counted x i none (map One e.times) ≡ e.strides) × Counted x i es

counts : (x : ℕ) (i : Integrator) → resonant i.resonance ≡ true → Counted x i edges
unfolding edges Counted whole_strides in_range
counts x i h = (refl, rw h, (refl, refl, (refl, rw h, (refl, rw h, tt))))

each : (s : Satellite) → s.place ≡ epoch_of (integrator_of s.model) → (es : List Edge) → Counted (epoch s) (integrator_of s.model) es → Each s es
unfolding Counted Each
each s n [] c = tt
each s n (e ∷ es) c = (nines s e.times ∙ c.0, (from_epoch s n (map One e.times)).counts ∙ c.1, each s n es c.2)

pub edges_hold : (r : Record) (s : Satellite) → open_of r ≡ Ok s → resonant (integrator_of s.model).resonance ≡ true → Each s edges
edges_hold r s o h = each s (opened_place r s o) edges (counts (epoch s) (integrator_of s.model) h)
