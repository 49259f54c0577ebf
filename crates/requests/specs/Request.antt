-- One time put to any satellite handed in: document 01, "Steps of the model", its second paragraph, and refusal 9. Definitions only.
use Rattle.std.specs.Prelude.{Bool, true, false, ℤ}
use Rattle.satellite.specs.declared.Model.{Model}
use Rattle.resonance.specs.declared.place.Place.{Place}
use Rattle.resonance.specs.declared.place.Advance.{Advance}
use Rattle.resonance.specs.Place.{advance_of}
use Rattle.resonance.specs.Time.{side_of, in_range, stride_need}
use Rattle.sgp4.specs.Sgp4.{integrator_of}
use Rattle.sgp4.specs.Row.{refused_row}
use Rattle.sgp4.specs.Kept.{row_from}
use Rattle.opening.specs.declared.opening.Satellite.{Satellite}
use Rattle.requests.specs.declared.Asked.{Asked}
use Rattle.requests.specs.declared.Answered.{Answered}

-- the position of m, and the strides taken to it
unfoldable pub reached : Model → Place → ℤ → Advance
reached k p t = let i = integrator_of k in advance_of i p (side_of t) (stride_need i t)

abbrev pub choose : Bool → Asked → Asked → Asked
choose true a b = a
choose false a b = b

-- a time in range: the position of m is saved, whether the row there is refused or not. `row_from` takes a satellite as it is handed in; of one that
-- opening gives it is 002's own row (specs/Claims).
abbrev pub inside : Model → Place → ℤ → Asked
inside k p t = let a = reached k p t in record { row = row_from k a.place t; strides = a.strides; place = a.place }

-- a time out of range: refusal 9, no strides, and the position stays
abbrev pub outside : Place → Asked
outside p = record { row = refused_row 9; strides = record { 0 = 0 }; place = p }

-- what a time gives at a saved position, and what it makes of that
unfoldable pub asked : Model → Place → ℤ → Asked
asked k p t = choose (in_range t) (inside k p t) (outside p)

-- a single request: of the satellite, only the saved position changes
abbrev pub answered : Satellite → ℤ → Answered
answered s t =
    let a = asked s.model s.place t in
    record { row = a.row; strides = a.strides; satellite = record { model = s.model; place = a.place } }
