-- What a time gives, put together, is what its definition says.
use mathlib.Core.Path.{◌≡◌, refl, sym, ap, ◌∙◌}
use mathlib.Core.Bool.{Bool, true, false, cond, ◌&&◌, false≢true}
use lib.IntN.{ℤ}
use Rattle.instant.specs.declared.Strides.{Strides}
use Rattle.satellite.specs.declared.Integrator.{Integrator}
use Rattle.satellite.specs.declared.Model.{Model}
use Rattle.resonance.specs.declared.place.Side.{Side}
use Rattle.resonance.specs.declared.place.Place.{Place}
use Rattle.resonance.specs.declared.place.Advance.{Advance}
use Rattle.resonance.specs.declared.held.Held.{Held}
use Rattle.resonance.specs.Place.{kept, advance_of}
use Rattle.resonance.specs.Time.{in_range, side_of, stride_need}
use Rattle.resonance.specs.Held.{held_at, Right, stays}
use Rattle.resonance.proofs.Handed.{left_kept, staying}
use Rattle.sgp4.specs.declared.Row.{Row}
use Rattle.sgp4.specs.Sgp4.{integrator_of}
use Rattle.sgp4.specs.Row.{refused_row}
use Rattle.sgp4.specs.Kept.{row_from}
use Rattle.sgp4.specs.Two.{rows_by}
use Rattle.sgp4.proofs.Two.{rows_held}
use Rattle.requests.specs.declared.Asked.{Asked}
use Rattle.elementary.specs.Two.{Two}
use Rattle.requests.specs.declared.Carried.{Carried}
use Rattle.requests.specs.Request.{reached, choose, inside, outside, asked}
use Rattle.requests.specs.Two.{asked_two, went_on, carried}

pub in_range_lem : (k : Model) (p : Place) (t : ℤ) (b : Bool) (a : Advance) (row : Row) → b ≡ in_range t → b ≡ true → a ≡ reached k p t → row ≡ row_from k a.place t
    → ◌≡◌ {A = Asked} (record { row = row; strides = a.strides; place = a.place }) (asked k p t)
unfolding asked
in_range_lem k p t b a row hb h ha hr =
    ap (λ (r : Row). record { row = r; strides = a.strides; place = a.place }) hr
    ∙ ap (λ (z : Advance). record { row = row_from k z.place t; strides = z.strides; place = z.place }) ha
    ∙ sym (ap (λ (x : Bool). choose x (inside k p t) (outside p)) (sym hb ∙ h))

pub out_of_range : (k : Model) (p : Place) (t : ℤ) (b : Bool) (row : Row) → b ≡ in_range t → b ≡ false → row ≡ refused_row 9
    → ◌≡◌ {A = Asked} (record { row = row; strides = record { 0 = 0 }; place = p }) (asked k p t)
unfolding asked
out_of_range k p t b row hb h hr =
    ap (λ (r : Row). record { row = r; strides = record { 0 = 0 }; place = p }) hr ∙ sym (ap (λ (x : Bool). choose x (inside k p t) (outside p)) (sym hb ∙ h))

-- ── two times ──

pub one_then : (k : Model) (p : Place) (t u : ℤ) (x y : Asked) → x ≡ asked k p t → y ≡ asked k x.place u → ◌≡◌ {A = Two Asked} (record { first = x; second = y }) (asked_two k p t u)
one_then k p t u x y hx hy =
    ap (λ (z : Asked). record { first = x; second = z }) hy ∙ ap (λ (z : Asked). record { first = z; second = asked k z.place u }) hx

-- both of two tests hold
pub both_true : (a b : Bool) → a && b ≡ true → (a ≡ true) × (b ≡ true)
both_true true b h = (refl, h)
both_true false b h = absurd (false≢true h)

-- ── derivatives that are handed on ──

carried_by : (k : Model) (h : Held) (t : ℤ) → Right (integrator_of k) h → (b : Bool) → stays h (side_of t) (stride_need (integrator_of k) t) ≡ b
    → cond b (record { held = h; strides = record { 0 = 0 } }) (went_on k h.place t) ≡ went_on k h.place t
unfolding went_on reached
carried_by k h t r true e =
    let x = staying (integrator_of k) h (side_of t) (stride_need (integrator_of k) t) r e in
    ap (λ (z : Held). record { held = z; strides = record { 0 = 0 } }) x.0
    ∙ sym (ap (λ (a : Advance). record { held = held_at (integrator_of k) a.place; strides = a.strides }) x.1)
carried_by k h t r false e = refl

carried_held : (k : Model) (h : Held) (t : ℤ) → Right (integrator_of k) h → carried k h t ≡ went_on k h.place t
unfolding carried
carried_held k h t r = carried_by k h t r (stays h (side_of t) (stride_need (integrator_of k) t)) refl

-- what the test of `carry` comes to
pub tested : (k : Model) (h : Held) (t : ℤ) (i : Integrator) (d : Side) (m : Strides) (b c : Bool) (x : Carried) → i ≡ integrator_of k → d ≡ side_of t → m.0 ≡ stride_need i t
    → b ≡ stays h d m.0 → b ≡ c → x ≡ cond c (record { held = h; strides = record { 0 = 0 } }) (went_on k h.place t) → x ≡ carried k h t
unfolding carried
tested k h t i d m b c x hi hd hm hb e hx =
    let same : b ≡ stays h (side_of t) (stride_need (integrator_of k) t) =
    hb ∙ ap (λ (z : Side). stays h z m.0) hd ∙ ap (stays h (side_of t)) (hm ∙ ap (λ (z : Integrator). stride_need z t) hi) in
    hx ∙ ap (λ (z : Bool). cond z (record { held = h; strides = record { 0 = 0 } }) (went_on k h.place t)) (sym e ∙ same)

-- the position and the strides are those without them
abbrev pub advance_of_lem : Carried → Advance
advance_of_lem a = record { place = a.held.place; strides = a.strides }

pub carried_advance : (k : Model) (h : Held) (t : ℤ) (a : Carried) → Right (integrator_of k) h → a ≡ carried k h t → advance_of_lem a ≡ reached k h.place t
unfolding went_on held_at
carried_advance k h t a r e = ap advance_of_lem (e ∙ carried_held k h t r)

-- and the derivatives are those of the position
pub carried_on : (k : Model) (h : Held) (t : ℤ) (a : Carried) → Right (integrator_of k) h → a ≡ carried k h t → a.held ≡ held_at (integrator_of k) a.held.place
unfolding went_on held_at
carried_on k h t a r e =
    let x : a ≡ went_on k h.place t = e ∙ carried_held k h t r in
    ap (λ (z : Carried). z.held) x ∙ ap (λ (z : Carried). held_at (integrator_of k) z.held.place) (sym x)

pub carried_stays_right : (k : Model) (h : Held) (t : ℤ) (a : Carried) → Right (integrator_of k) h → a ≡ carried k h t → Right (integrator_of k) a.held
unfolding reached advance_of
carried_stays_right k h t a r e known =
    let x : a.held.place ≡ (reached k h.place t).place = ap (λ (z : Advance). z.place) (carried_advance k h t a r e) in
    (carried_on k h t a r e, ap kept x ∙ left_kept _ _ _ _ ∙ sym x)

pub held_rows : (k : Model) (g h : Held) (t u : ℤ) (x : Two Row) → g ≡ held_at (integrator_of k) g.place → h ≡ held_at (integrator_of k) h.place → x ≡ rows_by k g t h u
    → x ≡ record { first = row_from k g.place t; second = row_from k h.place u }
held_rows k g h t u x eg eh e =
    e ∙ ap (λ (z : Held). rows_by k z t h u) eg ∙ ap (λ (z : Held). rows_by k (held_at (integrator_of k) g.place) t z u) eh ∙ rows_held k g.place t h.place u
