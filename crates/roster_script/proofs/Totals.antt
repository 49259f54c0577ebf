-- Total kept: over any calls from an empty roster, what is present is what was last accepted and not withdrawn since.
use Prim.Native.Nat.{ℕ, ◌≤◌}
use mathlib.Core.Path.{◌≡◌, refl, ap, sym, ◌∙◌}
use mathlib.Core.Bool.{Bool, true, false, cond}
use mathlib.Core.List.{List, [], ◌∷◌, ◌++◌, append-nil, flat_map}
use mathlib.Core.Option.{Option, none, some}
use native.Mathlib.Omega.{arith}
use borrow.Author.Tests.{eq-eqb}
use lib.Dec.{eqb}
use lib.ListN.{length, replicate}
use lib.Seq.{append_snoc}
use Rattle.tle.specs.Read.{read_of}
use Rattle.tle.specs.Refusals.{number_of}
use Rattle.tle.specs.declared.Record.{Record}
use Rattle.tle.specs.declared.Refusal.{Refusal}
use Rattle.tle.specs.declared.Refusal.TheVariants.{Length, Start, Column, Checksum, Numbers, Range, NoForm}
use Rattle.std.specs.Prelude.{Err, Ok, Result}
use Rattle.roster_calls.specs.declared.LodgingRefusal.{LodgingRefusal}
use Rattle.roster_calls.specs.declared.LodgingRefusal.TheVariants as lodging
use Rattle.tle.proofs.Accepted.{accepted_are_legal}
use Rattle.roster.specs.Packed.{packed}
use Rattle.roster.specs.Records.{Rising, end, lookup, lodged, withdrawn}
use Rattle.roster.specs.Roster.{bytes_of, roster_of}
use Rattle.roster.specs.Row.{row_of, roster_with}
use Rattle.roster_calls.specs.Calls.{lodging_number, withdrawal_number, ruling, answered, when_lodged, lodged_by, lodging_of, lodged_over, lodged_row, found_by, when_withdrawn, withdrawal_of, withdrawn_over, withdrawn_row, filling_of, filled_row}
use Rattle.roster_script.specs.Total.{Call, Lodge, Withdraw, Fill, Lent, lent, answer_to, after, answers_to, after_all, empty_with, empty, accepted, Total, TotalKept, TotalFilled}
use Rattle.roster.proofs.Sorted.{view, lodged_rising, withdrawn_rising, withdrawn_short, lookup_lodged, lookup_withdrawn}
use Rattle.roster.proofs.Decode.{roster_back}
use Rattle.roster.proofs.Rows.{rows_exactly, long_row}
use Rattle.roster_calls.proofs.Kept.{room_after, both_back, after_lodging, after_withdrawing}
use Rattle.roster_script.proofs.History.{effect, lodges_over, standing, standing_append, last_accepted, not_since_withdrawn, stands}

-- a roster with its row whose pairs are those that stand after a history
record Kept (m : Lent) (h : List Call) : Type 0 where
  pub records : List Record
  pub roster : roster_with m.buffer m.row ≡ some records
  pub rising : Rising 0 records
  pub room : length records ≤ 64
  pub present : (n : ℕ) → lookup n records ≡ standing n h none

-- the history after a call that was answered with a
abbrev noted : List Call → Call → ℕ → List Call
noted h c a = h ++ cond (eqb a 0) (c ∷ []) []

stood : (n : ℕ) (h : List Call) (c : Call) → standing n (h ++ c ∷ []) none ≡ effect n c (standing n h none)
unfolding standing
stood n h c = standing_append n h (c ∷ []) none

refusal_number_lem : (why : Refusal) → eqb (number_of why) 0 ≡ false
refusal_number_lem (Length line) = refl
refusal_number_lem (Start line) = refl
refusal_number_lem (Column line column) = refl
refusal_number_lem (Checksum line) = refl
refusal_number_lem Numbers = refl
refusal_number_lem (Range field) = refl
refusal_number_lem NoForm = refl

-- ── each call ──

module _ (m : Lent) (h : List Call) (K : Kept m h) where
  refused : Kept m (h ++ [])
  refused = rw (append-nil h) K

  unread : (why : Refusal) (c : Call) → Kept m (noted h c (number_of why))
  unread why c = rw (refusal_number_lem why) refused

  lodge_by : (v : Result (Unit {0}) LodgingRefusal) (r : Record) (line1 line2 : List ℕ) → read_of line1 line2 ≡ Ok r → ruling r K.records ≡ v
      → Kept (lent (when_lodged v (bytes_of (lodged r K.records)) m.buffer) (when_lodged v (row_of (lodged r K.records)) m.row)) (noted h (Lodge line1 line2) (lodging_number v))
  lodge_by (Ok tt) r line1 line2 g e =
      let l = accepted_are_legal line1 line2 r g in
      record {
        records = lodged r K.records;
        roster = after_lodging r K.records K.rising K.room l e;
        rising = lodged_rising r l (omega arith) K.rising;
        room = room_after r K.records (view r.number K.rising) K.room e;
        present = λ n.
            lookup_lodged r K.records n
            ∙ ap (cond (eqb r.number n) (some r)) (K.present n)
            ∙ sym (stood n h (Lodge line1 line2) ∙ ap (λ (t : Result Record Refusal). lodges_over n t (standing n h none)) g);
      }
  lodge_by (Err (lodging.Unread why)) r line1 line2 g e = unread why (Lodge line1 line2)
  lodge_by (Err lodging.NoRoster) r line1 line2 g e = refused
  lodge_by (Err lodging.Older) r line1 line2 g e = refused
  lodge_by (Err lodging.Full) r line1 line2 g e = refused

  lodge_read : (g : Result Record Refusal) (line1 line2 : List ℕ) → read_of line1 line2 ≡ g
      → Kept (lent (lodged_by bytes_of g (some K.records) m.buffer) (lodged_by row_of g (some K.records) m.row)) (noted h (Lodge line1 line2) (lodging_number (answered g (some K.records))))
  lodge_read (Err why) line1 line2 e = unread why (Lodge line1 line2)
  lodge_read (Ok r) line1 line2 e = lodge_by (ruling r K.records) r line1 line2 e refl

  withdraw_by : (o : Option Record) (n : ℕ)
      → Kept (lent (when_withdrawn (found_by o) (bytes_of (withdrawn n K.records)) m.buffer) (when_withdrawn (found_by o) (row_of (withdrawn n K.records)) m.row)) (noted h (Withdraw n) (withdrawal_number (found_by o)))
  withdraw_by (some r) n = record {
    records = withdrawn n K.records;
    roster = after_withdrawing n K.records K.rising K.room;
    rising = withdrawn_rising n K.rising;
    room = omega (arith, withdrawn_short n K.records, K.room);
    present = λ k. lookup_withdrawn n k K.rising ∙ ap (cond (eqb n k) none) (K.present k) ∙ sym (stood k h (Withdraw n));
  }
  withdraw_by none n = refused

  -- a row that is the roster's is filled with itself
  filled : Kept m (h ++ Fill ∷ [])
  filled = record {
    records = K.records;
    roster = K.roster;
    rising = K.rising;
    room = K.room;
    present = λ n. K.present n ∙ sym (stood n h Fill);
  }

  kept_after : (c : Call) → Kept (after m c) (noted h c (answer_to m c))
  unfolding lodging_of lodged_over lodged_row withdrawal_of withdrawn_over withdrawn_row filling_of filled_row
  kept_after (Lodge line1 line2) = rw K.roster (lodge_read (read_of line1 line2) line1 line2 refl)
  kept_after (Withdraw n) = rw K.roster (withdraw_by (lookup n K.records) n)
  kept_after Fill =
      let k = (rows_exactly m.buffer m.row K.records).0 K.roster in
      let l : length m.row ≡ 64 = ap length k.1 ∙ long_row K.records K.room in
      rw (k.0, eq-eqb (length m.row) 64 l, ← k.1) filled

-- ── any calls ──

noted_more : (x : Bool) (h : List Call) (c : Call) (later : List Call) → h ++ cond x (c ∷ []) [] ++ later ≡ h ++ cond x (c ∷ later) later
noted_more true h c later = append_snoc h c later
noted_more false h c later = ap (λ (t : List Call). t ++ later) (append-nil h)

kept_all : (cs : List Call) (m : Lent) (h : List Call) → Kept m h → Kept (after_all m cs) (h ++ accepted cs (answers_to m cs))
kept_all [] m h K = rw (append-nil h) K
kept_all (c ∷ cs) m h K =
    rw (noted_more (eqb (answer_to m c) 0) h c (accepted cs (answers_to (after m c) cs))) at
    (kept_all cs (after m c) (noted h c (answer_to m c)) (kept_after m h K c))

-- the empty roster, after a history that leaves nothing standing
none_yet : (h : List Call) → ((n : ℕ) → standing n h none ≡ none) → Kept (lent (bytes_of []) (row_of [])) h
unfolding lookup
none_yet h e = record { records = []; roster = both_back [] end (omega arith); rising = end; room = omega arith; present = λ n. sym (e n) }

zeros : lent (bytes_of []) (row_of []) ≡ empty
unfolding packed flat_map
zeros = refl

total_of_lem : (m : Lent) (h : List Call) → Kept m h → Total m h
total_of_lem m h K =
    let k = (rows_exactly m.buffer m.row K.records).0 K.roster in
    record {
      records = K.records;
      roster = k.0;
      row = k.1;
      present = λ n. (
        λ p. not_since_withdrawn n p.0 h (sym (K.present n) ∙ p.1),
        λ N. let s = stands n h N in (s.0, K.present n ∙ s.1),
      );
      pairs = λ n r e. last_accepted n r h (sym (K.present n) ∙ e);
    }

begun : (h : List Call) → ((n : ℕ) → standing n h none ≡ none) → Kept empty h
begun h e = rw zeros at (none_yet h e)

nothing : (n : ℕ) → standing n [] none ≡ none
unfolding standing
nothing n = refl

nothing_filled : (n : ℕ) → standing n (Fill ∷ []) none ≡ none
unfolding standing
nothing_filled n = refl

pub total : TotalKept
total cs = total_of_lem (after_all empty cs) (accepted cs (answers_to empty cs)) (kept_all cs empty [] (begun [] nothing))

-- ── the row of an empty roster filled first ──

no_pairs : roster_of (replicate 8832 0) ≡ some []
unfolding packed flat_map
no_pairs = roster_back [] end (omega arith)

zero_row : row_of [] ≡ replicate 64 0
unfolding packed flat_map
zero_row = refl

first_filled : (row : List ℕ) → length row ≡ 64 → (after (empty_with row) Fill ≡ empty) × (answer_to (empty_with row) Fill ≡ 0)
unfolding filling_of filled_row
first_filled row h = rw (no_pairs, eq-eqb (length row) 64 h, zero_row) (refl, refl)

pub total_filled : TotalFilled
total_filled row cs h =
    let f = first_filled row h in
    rw (f.0, f.1) (total_of_lem (after_all empty cs) (Fill ∷ accepted cs (answers_to empty cs)) (kept_all cs empty (Fill ∷ []) (begun (Fill ∷ []) nothing_filled)))
