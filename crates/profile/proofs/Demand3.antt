-- Demand 3 as it reads for the profile, for every sequence of requests put to any satellite.
use mathlib.Core.Path.{◌≡◌, refl, ap, ◌∙◌}
use mathlib.Core.List.{List, [], ◌∷◌, map}
use lib.IntN.{ℤ}
use Rattle.satellite.specs.declared.Model.{Model}
use Rattle.resonance.specs.declared.place.Place.{Place}
use Rattle.opening.specs.declared.opening.Satellite.{Satellite}
use Rattle.requests.specs.Request as F
use Rattle.requests.specs.Lists.{holding, satellite_from}
use Rattle.profile.specs.Request.{answered}
use Rattle.profile.specs.Lists.{taken_of}
use Rattle.profile.specs.Demand3.{Request, One, Many, row_times, outcome, run}
use Rattle.profile.specs.Claims.{AnySequence}
use Rattle.profile.proofs.Same.{no_strides, same_model, row_alone_lem, rows_alone_lem}

-- ── the model stays, and the rows depend on nothing else ──

model_list : (s : Satellite) (ts : List ℤ) → (satellite_from s ts).model ≡ s.model
model_list s [] = refl
model_list s (t ∷ ts) = model_list (F.answered s t).satellite ts

model_kept : (s : Satellite) (r : Request) → (outcome s r).satellite.model ≡ s.model
model_kept s (One t) = same_model s t
model_kept s (Many ts a b c) = model_list s (taken_of (row_times s (Many ts a b c)))

next : (k : Model) (p : Place) (r : Request) → (outcome (holding k p) r).satellite ≡ holding k (outcome (holding k p) r).satellite.place
next k p r = ap (λ m. holding m (outcome (holding k p) r).satellite.place) (model_kept (holding k p) r)

request_rows : (k : Model) (p q : Place) (r : Request) → (outcome (holding k p) r).rows ≡ map (λ t. (answered (holding k q) t).row) (row_times (holding k q) r)
request_rows k p q (One t) = ap (λ x. x ∷ []) (row_alone_lem k p q t)
request_rows k p q (Many ts a b c) = rows_alone_lem k p q (row_times (holding k q) (Many ts a b c))

rows_run : (k : Model) (p q : Place) (rs : List Request)
    → map (λ o. o.rows) (run (holding k p) rs) ≡ map (λ r. map (λ t. (answered (holding k q) t).row) (row_times (holding k q) r)) rs
rows_run k p q [] = refl
rows_run k p q (r ∷ rs) =
    ap (λ x. x ∷ map (λ o. o.rows) (run (outcome (holding k p) r).satellite rs)) (request_rows k p q r)
    ∙ ap (λ l. map (λ t. (answered (holding k q) t).row) (row_times (holding k q) r) ∷ l)
    (ap (λ s. map (λ o. o.rows) (run s rs)) (next k p r) ∙ rows_run k (outcome (holding k p) r).satellite.place q rs)

-- ── no strides ──

request_none : (s : Satellite) (r : Request) → (outcome s r).strides ≡ 0
request_none s (One t) = no_strides s t
request_none s (Many ts a b c) = refl

counts_run : (s : Satellite) (rs : List Request) → map (λ o. o.strides) (run s rs) ≡ map (λ r. 0) rs
counts_run s [] = refl
counts_run s (r ∷ rs) =
    ap (λ n. n ∷ map (λ o. o.strides) (run (outcome s r).satellite rs)) (request_none s r) ∙ ap (λ l. 0 ∷ l) (counts_run (outcome s r).satellite rs)

pub any_sequence : AnySequence
any_sequence s rs = record { rows = rows_run s.model s.place s.place rs; counts = counts_run s rs }
