-- The rows of an opened satellite are 002's own: what set-up keeps is as 002 computes it.
use mathlib.Core.Path.{◌≡◌, refl, sym, ap, ◌∙◌, subst, fun_ext}
use mathlib.Core.Bool.{Bool, true, false, cond}
use mathlib.Core.List.{map}
use lib.IntN.{ℤ}
use Rattle.instant.specs.declared.Instant.{Instant}
use Rattle.satellite.specs.declared.Elements.{Elements}
use Rattle.satellite.specs.declared.Model.{Model}
use Rattle.near_earth.specs.Initl.{initl, deep_space}
use Rattle.near_earth.specs.Kept.{AsComputed}
use Rattle.near_earth.proofs.Kept.{kept_as_computed}
use Rattle.resonance.specs.declared.place.Place.{Place}
use Rattle.resonance.specs.Time.{in_range}
use Rattle.sgp4.specs.declared.Row.{Row}
use Rattle.sgp4.specs.Row.{refused_row, row_at}
use Rattle.sgp4.specs.Claims.{PlainRows}
use Rattle.sgp4.proofs.Kept.{rows_as_computed}
use Rattle.opening.specs.declared.opening.Satellite.{Satellite}
use Rattle.opening.specs.Elements.{elements_of}
use Rattle.opening.specs.Opening.{model_of}
use Rattle.opening.proofs.Made.{model_at, made}
use Rattle.requests.specs.Request.{reached, choose, inside, outside, asked}
use Rattle.sequences.specs.Demand3.{row_times, row_alone, epoch}
use Rattle.sequences.specs.Claims.{OpenedPlain, plain_row, AnsweredPlain}
use Rattle.sequences.proofs.Demand3.{from_epoch, opened_place}

model_as_computed : (el : Elements) (t : Instant) → AsComputed (model_at el t).near
unfolding model_of
model_as_computed el t = kept_as_computed el (deep_space (initl el.ecco el.inclo el.no))

pub plain_rows : OpenedPlain
plain_rows r s h =
    let m = made r s h in
    rows_as_computed s.model (subst (λ (k : Model). AsComputed k.near) (sym m.model) (model_as_computed (elements_of r) m.when))

plain_by : (k : Model) (p : Place) (t : ℤ) (b : Bool) → PlainRows k
    → (choose b (inside k p t) (outside p)).row ≡ cond b (row_at k (reached k p t).place t) (refused_row 9)
plain_by k p t true h = h (reached k p t).place t
plain_by k p t false h = refl

plain_alone : (s : Satellite) → PlainRows s.model → (t : ℤ) → row_alone s t ≡ plain_row s t
unfolding asked
plain_alone s h t = plain_by s.model s.place t (in_range t) h

pub plain_answers : AnsweredPlain
plain_answers r s h rs =
    (from_epoch s (opened_place r s h) rs).rows
    ∙ ap (λ (f : ℤ → Row). map (λ q. map f (row_times (epoch s) q)) rs) (fun_ext (plain_alone s (plain_rows r s h)))
