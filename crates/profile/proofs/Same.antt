-- "On everything the profile takes, its answers have the same bits as the full program", for every satellite handed in.
use mathlib.Core.Path.{◌≡◌, refl, sym, ap, ◌∙◌, subst}
use mathlib.Core.Bool.{Bool, true, false, cond}
use mathlib.Core.List.{List, [], ◌∷◌}
use lib.IntN.{ℤ}
use Rattle.instant.specs.declared.Instant.{Instant}
use Rattle.tle.specs.declared.Record.{Record}
use Rattle.satellite.specs.declared.NearEarth.{NearEarth}
use Rattle.satellite.specs.declared.Model.{Model}
use Rattle.resonance.specs.declared.place.Place.{Place}
use Rattle.opening.specs.declared.opening.Refusal.{Refusal as FullRefusal}
use Rattle.opening.specs.declared.opening.Satellite.{Satellite}
use Rattle.opening.specs.declared.opening.Refusal.TheVariants as full-refusal
use Rattle.std.specs.Prelude.{Err, Ok, Result}
use Rattle.profile.specs.declared.opener.Refusal.{Refusal}
use Rattle.opening.specs.Elements.{elements_of}
use Rattle.opening.specs.Opening as O
use Rattle.opening.specs.Opening.{model_of, newly}
use Rattle.opening.proofs.Made.{made, model_at}
use Rattle.requests.specs.Request as F
use Rattle.requests.specs.Lists.{rows_from, strides_from, satellite_from, holding}
use Rattle.storage.specs.Near.{near_satellite}
use Rattle.profile.specs.Opening.{is_deep, narrow, open_of}
use Rattle.profile.specs.Request.{beyond_by, beyond, taken, refused, answered}
use Rattle.profile.specs.Lists.{rows_of, taken_of}
use Rattle.profile.specs.Claims.{SameOpening, OpensTheRest, SameAnswer, NoStrides, AllTaken, SameLists}
use Rattle.profile.proofs.Near.{near_model_lem, near_taken, deep_beyond, near_asked_lem, near_row_lem}

-- ── a satellite that the profile opens is the one that the full program opens, and near Earth ──

method_by : (r : Record) (t : Instant) (b : Bool) → is_deep (elements_of r) ≡ b → beyond_by (model_at (elements_of r) t).method ≡ b
unfolding is_deep model_of
method_by r t true h = rw h (deep_beyond _)
method_by r t false h = rw h near_taken

opened_deep : (r : Record) (s : Satellite) → O.open_of r ≡ Ok s → beyond s ≡ is_deep (elements_of r)
opened_deep r s e = let m = made r s e in ap (λ (k : Model). beyond_by k.method) m.model ∙ method_by r m.when (is_deep (elements_of r)) refl

newly_near : (r : Record) (s : Satellite) → O.open_of r ≡ Ok s → is_deep (elements_of r) ≡ false → s ≡ near_satellite s.model.near s.model.epoch
newly_near r s e h = (made r s e).newly_opened ∙ ap newly (sym (near_model_lem s.model (opened_deep r s e ∙ h)))

abbrev Given : (NearEarth → Instant → Type 0) → Result (NearEarth × Instant) Refusal → Type 0
Given P (Ok (n, t)) = P n t
Given P (Err why) = Unit {0}

opens_by : (r : Record) (b : Bool) (o : Result Satellite FullRefusal) → is_deep (elements_of r) ≡ b → O.open_of r ≡ o
    → Given (λ n t. O.open_of r ≡ Ok (near_satellite n t)) (narrow b o)
unfolding narrow
opens_by r true (Ok s) hb ho = tt
opens_by r false (Ok s) hb ho = ho ∙ ap Ok (newly_near r s ho hb)
opens_by r b (Err full-refusal.Record) hb ho = tt
opens_by r b (Err full-refusal.Perigee) hb ho = tt
opens_by r true (Err full-refusal.NotFinite) hb ho = tt
opens_by r false (Err full-refusal.NotFinite) hb ho = tt

opens_all : (r : Record) → Given (λ n t. O.open_of r ≡ Ok (near_satellite n t)) (open_of r)
unfolding open_of
opens_all r = opens_by r (is_deep (elements_of r)) (O.open_of r) refl refl

pub same_opening : SameOpening
same_opening r n t e = subst (Given (λ n t. O.open_of r ≡ Ok (near_satellite n t))) e (opens_all r)

pub opens_the_rest : OpensTheRest
unfolding open_of narrow
opens_the_rest r s e = record {
  opens = λ h. rw (e, h);
  deep = opened_deep r s e;
}

-- ── a single request: the same row, the same strides and the same satellite back ──

pub same_answer : SameAnswer
unfolding answered
same_answer s t h e = rw (h, e)

-- 32 and 33 leave the satellite
pub unchanged_beyond : (s : Satellite) (t : ℤ) → beyond s ≡ true → answered s t ≡ refused 32 s
unfolding answered
unchanged_beyond s t h = rw h

pub unchanged_33 : (s : Satellite) (t : ℤ) → beyond s ≡ false → taken t ≡ false → answered s t ≡ refused 33 s
unfolding answered
unchanged_33 s t h e = rw (h, e)

full_none : (k : Model) (p : Place) (t : ℤ) → beyond_by k.method ≡ false → taken t ≡ true → (F.asked k p t).strides.0 ≡ 0
full_none k p t h e =
    ap (λ (m : Model). (F.asked m p t).strides.0) (sym (near_model_lem k h)) ∙ ap (λ x. x.strides.0) (near_asked_lem k.near k.epoch p t e)

pub no_strides : NoStrides
unfolding answered
no_strides s t = by (beyond s) (taken t) refl refl
  where
    by : (b c : Bool) → beyond s ≡ b → taken t ≡ c → (cond b (refused 32 s) (cond c (F.answered s t) (refused 33 s))).strides.0 ≡ 0
    by true c hb hc = refl
    by false true hb hc = full_none s.model s.place t hb hc
    by false false hb hc = refl

pub same_model : (s : Satellite) (t : ℤ) → (answered s t).satellite.model ≡ s.model
unfolding answered
same_model s t = by (beyond s) (taken t)
  where
    by : (b c : Bool) → (cond b (refused 32 s) (cond c (F.answered s t) (refused 33 s))).satellite.model ≡ s.model
    by true c = refl
    by false true = refl
    by false false = refl

-- ── the position changes no row ──

row_by : (k : Model) (p q : Place) (t : ℤ) (b : Bool) → beyond_by k.method ≡ b → (answered (holding k p) t).row ≡ (answered (holding k q) t).row
row_by k p q t true h = ap (λ x. x.row) (unchanged_beyond (holding k p) t h) ∙ sym (ap (λ x. x.row) (unchanged_beyond (holding k q) t h))
row_by k p q t false h =
    let e = near_model_lem k h in
    ap (λ (m : Model). (answered (holding m p) t).row) (sym e)
    ∙ sym (near_row_lem k.near k.epoch p t) ∙ near_row_lem k.near k.epoch q t
    ∙ ap (λ (m : Model). (answered (holding m q) t).row) e

pub row_alone_lem : (k : Model) (p q : Place) (t : ℤ) → (answered (holding k p) t).row ≡ (answered (holding k q) t).row
row_alone_lem k p q t = row_by k p q t (beyond_by k.method) refl

pub rows_alone_lem : (k : Model) (p q : Place) (ts : List ℤ) → rows_of (holding k p) ts ≡ rows_of (holding k q) ts
rows_alone_lem k p q [] = refl
rows_alone_lem k p q (t ∷ ts) = ap (λ x. x ∷ rows_of (holding k p) ts) (row_alone_lem k p q t) ∙ ap (λ l. (answered (holding k q) t).row ∷ l) (rows_alone_lem k p q ts)

-- ── a list of times that the profile takes: the full program's answer and rows ──

all_taken : (ts : List ℤ) → AllTaken ts → taken_of ts ≡ ts
all_taken [] h = refl
all_taken (t ∷ ts) h = rw h.0 (ap (λ l. t ∷ l) (all_taken ts h.1))

same_rows : (k : Model) (p q : Place) (ts : List ℤ) → beyond_by k.method ≡ false → AllTaken ts → rows_of (holding k p) ts ≡ rows_from (holding k q) ts
same_rows k p q [] h all = refl
same_rows k p q (t ∷ ts) h all =
    let e : (answered (holding k p) t).row ≡ (F.asked k q t).row = row_alone_lem k p q t ∙ ap (λ x. x.row) (same_answer (holding k q) t h all.0) in
    ap (λ x. x ∷ rows_of (holding k p) ts) e ∙ ap (λ l. (F.asked k q t).row ∷ l) (same_rows k p (F.asked k q t).place ts h all.1)

full_strides : (k : Model) (q : Place) (ts : List ℤ) → beyond_by k.method ≡ false → AllTaken ts → strides_from (holding k q) ts ≡ 0
full_strides k q [] h all = refl
full_strides k q (t ∷ ts) h all = rw (full_none k q t h all.0, full_strides k (F.asked k q t).place ts h all.1)

pub same_lists : SameLists
same_lists s ts h all = record {
  rows = same_rows s.model s.place s.place ts h all;
  strides = full_strides s.model s.place ts h all;
  satellite = ap (satellite_from s) (all_taken ts all);
}
