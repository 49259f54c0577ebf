-- Document 01, "Cases at the edges", and cases of document 02: every case holds, in one statement over the list of them.
use mathlib.Core.Path.{◌≡◌, refl}
use mathlib.Core.Bool.{true}
use mathlib.Core.List.{List, [], ◌∷◌, ◌++◌, map}
use Rattle.instant.specs.Calendar.{days_in, days_before, epoch_micros, last_day, day_in_range}
use Rattle.columns.specs.Layout.{agreed}
use Rattle.columns.specs.Sum.{digit_of, sum}
use Rattle.tle.specs.Number.{value_on}
use Rattle.columns.specs.FirstPlace.{position, first_of}
use Rattle.tle.specs.Catalogue.{catalogue_of}
use Rattle.tle.specs.Refusals.{values_of}
use Rattle.tle.specs.Read.{verdict_of, number_at, pair_of, year_of, day_at, motion_at, degrees_at, fields_of, form_of, ranges_of, read_of}
use Rattle.tle.specs.declared.Record.{Record}
use Rattle.resonance.specs.Time.{resonant}
use Rattle.opening.specs.declared.opening.Satellite.{Satellite}
use Rattle.std.specs.Prelude.{Ok}
use Rattle.opening.specs.Opening.{open_of}
use Rattle.sgp4.specs.Sgp4.{integrator_of}
use Rattle.sequences.specs.Edges as E
use Rattle.sequences.proofs.Edges as R
use Rattle.edge_cases.specs.Cases.{Case, strides, outcome, Claim, Every, lines, days, edges}

lines_hold : Every Claim lines
unfolding Every Claim outcome lines read_of form_of pair_of verdict_of agreed sum digit_of value_on number_at catalogue_of first_of position fields_of ranges_of year_of day_at motion_at degrees_at day_in_range last_day values_of epoch_micros days_before days_in
lines_hold = (
  (refl, refl),
  (
    (refl, refl),
    (
      refl,
      (
        refl,
        (
          refl,
          (
            refl,
            (
              (refl, refl),
              (
                refl,
                (
                  (refl, refl),
                  (
                    refl,
                    (
                      (refl, refl),
                      (
                        (refl, refl),
                        (
                          refl,
                          tt,
                        ),
                      ),
                    ),
                  ),
                ),
              ),
            ),
          ),
        ),
      ),
    ),
  ),
)

days_hold : Every Claim days
unfolding Every Claim outcome days read_of form_of pair_of verdict_of agreed sum digit_of value_on number_at catalogue_of first_of position fields_of ranges_of year_of day_at motion_at degrees_at day_in_range last_day days_in values_of
days_hold = (refl, ((refl, refl), ((refl, refl), (refl, ((refl, refl), (refl, tt))))))

-- what holds of every newly opened resonant satellite, case by case
strides_hold : (es : List E.Edge)
    → ((r : Record) (s : Satellite) → open_of r ≡ Ok s → resonant (integrator_of s.model).resonance ≡ true → E.Each s es)
    → Every Claim (map strides es)
unfolding Every Claim E.Each
strides_hold [] f = tt
strides_hold (e ∷ es) f = ((λ r s o h. ((f r s o h).0, (f r s o h).1)), strides_hold es (λ r s o h. (f r s o h).2))

both : (xs ys : List Case) → Every Claim xs → Every Claim ys → Every Claim (xs ++ ys)
unfolding Every
both [] ys p q = q
both (x ∷ xs) ys p q = (p.0, both xs ys p.1 q)

pub edges_hold : Every Claim edges
unfolding edges
edges_hold =
    both (lines ++ days) (map strides E.edges) (both lines days lines_hold days_hold) (strides_hold E.edges R.edges_hold)
