-- What holds of every satellite that opening gives. A satellite that opening gives is newly opened: its place is that of the epoch.
use Prim.Native.Nat.{ℕ}
use mathlib.Core.Path.{◌≡◌, refl, sym, ap, ◌∙◌, subst}
use mathlib.Core.Bool.{Bool, true, false, cond}
use mathlib.Core.List.{List}
use lib.Ieee.{lt}
use Rattle.elementary.specs.Notation.{dec}
use Rattle.instant.specs.declared.Instant.{Instant}
use Rattle.std.specs.Prelude.{Err, None, Ok, Option, Result, Some}
use Rattle.tle.specs.declared.Refusal.{Refusal as ReadingRefusal}
use Rattle.opening.specs.declared.opening.PairRefusal.{PairRefusal}
use Rattle.opening.specs.declared.opening.PairRefusal.TheVariants as pair
use Rattle.instant.specs.Calendar.{epoch_of}
use Rattle.instant.specs.Greenwich.{epoch_days_of, greenwich_of}
use Rattle.tle.specs.declared.Record.{Record}
use Rattle.tle.specs.Legal.{legal}
use Rattle.tle.specs.Read.{read_of}
use Rattle.satellite.specs.declared.Elements.{Elements}
use Rattle.satellite.specs.declared.Model.{Model}
use Rattle.near_earth.specs.Initl.{initl}
use Rattle.opening.specs.declared.opening.Satellite.{Satellite}
use Rattle.opening.specs.declared.opening.Refusal.{Refusal}
use Rattle.opening.specs.declared.opening.Refusal.TheVariants as refusal
use Rattle.opening.specs.Elements.{elements_of}
use Rattle.opening.specs.Claims.{KeepsEpoch}
use Rattle.opening.specs.Opening.{newly, finite_record, model_of, checked, above, started, dated, open_of, opened, after_reading, open_pair_of}

-- the model of a record whose epoch is t
abbrev pub model_at : Elements → Instant → Model
model_at el t = model_of el (initl el.ecco el.inclo el.no) t (epoch_days_of t.0) (greenwich_of t.0)

pub record Made (r : Record) (s : Satellite) : Type 0 where
  pub lawful : legal r ≡ true
  pub when : Instant
  pub dated_then : epoch_of r.year r.day ≡ Some when
  pub model : s.model ≡ model_at (elements_of r) when
  pub newly_opened : s ≡ newly s.model
  pub finite_record_lem : finite_record s.model (greenwich_of when.0) ≡ true

-- P of the satellite, where an answer gives one
abbrev Given : (Satellite → Type 0) → Result Satellite Refusal → Type 0
Given P (Ok s) = P s
Given P (Err why) = Unit {0}

past : (P : Satellite → Type 0) (b : Bool) (why : Refusal) (y : Result Satellite Refusal) → Given P y → Given P (cond b (Err why) y)
past P true why y p = tt
past P false why y p = p

last : (P : Satellite → Type 0) (b : Bool) (why : Refusal) (x : Result Satellite Refusal) → (b ≡ true → Given P x) → Given P (cond b x (Err why))
last P true why x p = p refl
last P false why x p = tt

dated_made : (r : Record) (e : Option Instant) → legal r ≡ true → epoch_of r.year r.day ≡ e → Given (Made r) (dated r e)
unfolding dated started above checked newly
dated_made r (Some t) l d =
    let el = elements_of r in
    let i = initl el.ecco el.inclo el.no in
    let m = model_at el t in
    let b = finite_record m (greenwich_of t.0) in
    past (Made r) (lt i.rp (dec 1 0)) refusal.Perigee (cond b (Ok (newly m)) (Err refusal.NotFinite))
    (last (Made r) b refusal.NotFinite (Ok (newly m))
    (λ h. record { lawful = l; when = t; dated_then = d; model = refl; newly_opened = refl; finite_record_lem = h }))
dated_made r None l d = tt

open_made : (r : Record) → Given (Made r) (open_of r)
unfolding open_of
open_made r =
    let e = epoch_of r.year r.day in
    last (Made r) (legal r) refusal.Record (dated r e) (λ h. dated_made r e h refl)

pub made : (r : Record) (s : Satellite) → open_of r ≡ Ok s → Made r s
made r s e = subst (Given (Made r)) e (open_made r)

pub epoch_kept : KeepsEpoch
unfolding model_of
epoch_kept r s e = let m = made r s e in m.dated_then ∙ ap (λ (k : Model). Some k.epoch) (sym m.model)

-- ── two lines ──

-- a satellite comes of two lines only where they read as a record that opens to it
pub record MadeOf (line1 line2 : List ℕ) (s : Satellite) : Type 0 where
  pub source : Record
  pub reads : read_of line1 line2 ≡ Ok source
  pub opens : open_of source ≡ Ok s

abbrev GivenPair : (Satellite → Type 0) → Result Satellite PairRefusal → Type 0
GivenPair P (Ok s) = P s
GivenPair P (Err (pair.Unread why)) = Unit {0}
GivenPair P (Err (pair.Refused why)) = Unit {0}

opened_of : (line1 line2 : List ℕ) (r : Record) (o : Result Satellite Refusal) → read_of line1 line2 ≡ Ok r → open_of r ≡ o → GivenPair (MadeOf line1 line2) (opened o)
unfolding opened
opened_of line1 line2 r (Ok s) h k = record { source = r; reads = h; opens = k }
opened_of line1 line2 r (Err why) h k = tt

pair_of : (line1 line2 : List ℕ) (x : Result Record ReadingRefusal) → read_of line1 line2 ≡ x → GivenPair (MadeOf line1 line2) (after_reading x)
unfolding after_reading
pair_of line1 line2 (Ok r) h = opened_of line1 line2 r (open_of r) h refl
pair_of line1 line2 (Err why) h = tt

pair_made : (line1 line2 : List ℕ) → GivenPair (MadeOf line1 line2) (open_pair_of line1 line2)
unfolding open_pair_of
pair_made line1 line2 = pair_of line1 line2 (read_of line1 line2) refl

pub made_of : (line1 line2 : List ℕ) (s : Satellite) → open_pair_of line1 line2 ≡ Ok s → MadeOf line1 line2 s
made_of line1 line2 s e = subst (GivenPair (MadeOf line1 line2)) e (pair_made line1 line2)
