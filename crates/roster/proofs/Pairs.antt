-- A pair as we write it: how it is put into a buffer, and that its place reads back.
use Prim.Native.Nat.{ℕ, ◌+◌, ◌-◌, ◌<◌, ◌≤◌}
use mathlib.Core.Path.{◌≡◌, refl, ap, sym, ◌∙◌}
use mathlib.Core.Bool.{Bool, true, false, cond}
use mathlib.Core.List.{List, ◌++◌, append_assoc, append-nil}
use native.Mathlib.Omega.{arith}
use borrow.Author.Tests.{le-leb, lt-leb}
use lib.ListN.{length, take, drop, length-append, length-drop, drop_of_length-le, take-append-drop}
use lib.Seq.{length-take-le, take_at, drop_at, take_all}
use Rattle.tle.specs.Legal.{legal}
use Rattle.tle.specs.Read.{read_of}
use Rattle.tle.specs.declared.Record.{Record}
use Rattle.tle.specs.declared.Refusal.{Refusal}
use Rattle.std.specs.Prelude.{Err, None, Ok, Result, Some}
use Rattle.tle.specs.declared.Line.{Line}
use Rattle.tle.specs.declared.Line.TheVariants.{One, Two}
use Rattle.tle.proofs.Accepted.{accepted_are_legal}
use Rattle.tle_writer.specs.Lines.{line_of, body_of, closed_of, join}
use Rattle.tle_writer.specs.Over.{over}
use Rattle.tle_writer.specs.Write.{writing_of, written_over}
use Rattle.tle_writer.proofs.Overs.{and}
use Rattle.tle_writer.proofs.Writes.{written, exactly, length_line}
use Rattle.tle_writer.proofs.Round.{read_back}
use Rattle.tle_writer.proofs.Facts.{facts}
use Rattle.roster.specs.Roster.{pair_bytes, pair_over, all_zero, same, as_written, place_of}
use Rattle.roster.proofs.Tests.{same_equal, same_refl}

pub length_pair : (r : Record) → length (pair_bytes r) ≡ 138
unfolding pair_bytes
length_pair r = length-append (line_of One r) (line_of Two r) ∙ rw (length_line One r, length_line Two r)

-- ── put into a buffer ──

filled : (r : Record) (which : Line) (part p : List ℕ) → legal r ≡ true → length part ≡ 69 → p ≡ written_over r which part → p ≡ line_of which r
filled r which part p h n e = exactly r which part p e (sym (written r which part h (omega arith)).0) n

length_over : (at w : ℕ) (ys l : List ℕ) → at + w ≤ length l → length ys ≡ w → length (over at w ys l) ≡ length l
unfolding over
length_over at w ys l h e =
    length-append (take at l) (ys ++ drop w (drop at l))
    ∙ rw (length-take-le at l (omega arith), length-append ys (drop w (drop at l)), length-drop w (drop at l), length-drop at l) (omega arith)

part_long : (at w : ℕ) (l : List ℕ) → at + w ≤ length l → length (take w (drop at l)) ≡ w
part_long at w l h = length-take-le w (drop at l) (rw length-drop (omega arith))

put_both : (r : Record) (at : ℕ) (l p q : List ℕ) → legal r ≡ true → at + 138 ≤ length l
    → p ≡ written_over r One (take (at + 69 - at) (drop at l))
    → q ≡ written_over r Two (take (at + 138 - (at + 69)) (drop (at + 69) (over at (at + 69 - at) p l)))
    → over (at + 69) (at + 138 - (at + 69)) q (over at (at + 69 - at) p l) ≡ over at 138 (pair_bytes r) l
unfolding pair_bytes
put_both r at l p q h g e f =
    let n : at + 69 - at ≡ 69 = omega arith in
    let m : at + 138 - (at + 69) ≡ 69 = omega arith in
    let e' : p ≡ line_of One r = filled r One (take 69 (drop at l)) p h (part_long at 69 l (omega arith)) (rw n at e) in
    let long : length (over at 69 p l) ≡ length l = length_over at 69 p l (omega arith) (ap length e' ∙ length_line One r) in
    let f' : q ≡ line_of Two r = filled r Two (take 69 (drop (at + 69) (over at 69 p l))) q h (part_long (at + 69) 69 (over at 69 p l) (omega arith)) (rw (n, m) at f) in
    rw (n, m, e', f')
    (and {at = at} {w = 69} {v = 69} {from = at + 69} {xs = line_of One r} {ys = line_of Two r} {line = l}
    refl (omega arith) (record { is = refl; wide = length_line One r }) (record { is = refl; wide = length_line Two r })).is

-- nothing is put where there is no room, or where the record cannot be written
pub no_room : (r : Record) (at : ℕ) (l : List ℕ) → length l < at + 138 → l ≡ pair_over at r l
unfolding pair_over
no_room r at l h = rw (lt-leb (at + 138) (length l) h)

unwritten : (r : Record) (which : Line) (at w : ℕ) (l p : List ℕ) → legal r ≡ false → p ≡ written_over r which (take w (drop at l)) → over at w p l ≡ l
unfolding written_over writing_of over
unwritten r which at w l p h e =
    let q : p ≡ take w (drop at l) = e ∙ rw h in
    rw (q, take-append-drop w (drop at l), take-append-drop at l)

pub put_pair_over : (x : Bool) (r : Record) (at : ℕ) (l p q : List ℕ) → legal r ≡ x → at + 138 ≤ length l
    → p ≡ written_over r One (take (at + 69 - at) (drop at l))
    → q ≡ written_over r Two (take (at + 138 - (at + 69)) (drop (at + 69) (over at (at + 69 - at) p l)))
    → over (at + 69) (at + 138 - (at + 69)) q (over at (at + 69 - at) p l) ≡ pair_over at r l
unfolding pair_over
put_pair_over true r at l p q h g e f = rw (le-leb (at + 138) (length l) g, h) (put_both r at l p q h g e f)
put_pair_over false r at l p q h g e f =
    let m = over at (at + 69 - at) p l in
    rw (le-leb (at + 138) (length l) g, h)
    (unwritten r Two (at + 69) (at + 138 - (at + 69)) m q h f ∙ unwritten r One at (at + 69 - at) l p h e)

-- a legal record where there is room
pub pair_over_lem : (r : Record) (at : ℕ) (l : List ℕ) → legal r ≡ true → at + 138 ≤ length l → pair_over at r l ≡ over at 138 (pair_bytes r) l
unfolding pair_over
pair_over_lem r at l h g = rw (le-leb (at + 138) (length l) g, h)

-- ── a place ──

first : (r : Record) → take 69 (pair_bytes r) ≡ line_of One r
unfolding pair_bytes
first r = take_at (line_of One r) (line_of Two r) 69 (length_line One r)

second : (r : Record) → drop 69 (pair_bytes r) ≡ line_of Two r
unfolding pair_bytes
second r = drop_at (line_of One r) (line_of Two r) 69 (length_line One r)

reads : (r : Record) → legal r ≡ true → read_of (take 69 (pair_bytes r)) (drop 69 (pair_bytes r)) ≡ Ok r
reads r h = rw (first r, second r) (read_back r h)

-- as it stands in front of other bytes
pub read_front : (r : Record) (l : List ℕ) → legal r ≡ true → read_of (take 69 (pair_bytes r ++ l)) (take 69 (drop 69 (pair_bytes r ++ l))) ≡ Ok r
unfolding pair_bytes
read_front r l h =
    rw (append_assoc (line_of One r) (line_of Two r) l, take_at (line_of One r) (line_of Two r ++ l) 69 (length_line One r), drop_at (line_of One r) (line_of Two r ++ l) 69 (length_line One r), take_at (line_of Two r) l 69 (length_line Two r))
    (read_back r h)

-- what is written of a legal record is its place
pub place_back : (r : Record) → legal r ≡ true → place_of (pair_bytes r) ≡ Some r
unfolding place_of
place_back r h = rw (reads r h, same_refl (pair_bytes r))

compared : (t : Bool) (p : List ℕ) (r s : Record) → same p (pair_bytes r) ≡ t → cond t (Some r) None ≡ Some s → (p ≡ pair_bytes s) × (r ≡ s)
compared true p r s h e = let q : r ≡ s = cc in (same_equal p (pair_bytes r) h ∙ ap pair_bytes q, q)
compared false p r s h e = (cc, cc)

read_as : (g : Result Record Refusal) (p l₁ l₂ : List ℕ) (s : Record) → read_of l₁ l₂ ≡ g → as_written p g ≡ Some s → (p ≡ pair_bytes s) × (legal s ≡ true)
read_as (Err why) p l₁ l₂ s h e = (cc, cc)
read_as (Ok r) p l₁ l₂ s h e =
    let c = compared (same p (pair_bytes r)) p r s refl e in
    (c.0, accepted_are_legal l₁ l₂ s (h ∙ ap Ok c.1))

-- and what a place gives is legal, and what is written of it is the place
pub place_sound : (p : List ℕ) (s : Record) → place_of p ≡ Some s → (p ≡ pair_bytes s) × (legal s ≡ true)
unfolding place_of
place_sound p s e = read_as (read_of (take 69 p) (drop 69 p)) p (take 69 p) (drop 69 p) s refl e

-- a pair begins with `1`, and so is not all zeros
pub pair_nonzero : (r : Record) (l : List ℕ) → all_zero (pair_bytes r ++ l) ≡ false
unfolding pair_bytes line_of body_of closed_of join all_zero
pair_nonzero r l = refl

pub number_fits : (r : Record) → legal r ≡ true → r.number < 1000000
number_fits r h = omega (arith, (facts r h).number)

-- ── as the code finds them ──

-- all of a room of one pair
pub whole : (l : List ℕ) (r : Record) → length l ≡ 138 → legal r ≡ true → pair_over 0 r l ≡ pair_bytes r
unfolding over
whole l r h k = pair_over_lem r 0 l k (omega arith) ∙ rw (drop_of_length-le l {i = 138} (omega arith)) (append-nil (pair_bytes r))

module _ (p : List ℕ) (long : length p ≡ 138) (g : Result Record Refusal) (read : g ≡ read_of (take 69 p) (take 69 (drop 69 p))) where
  both_lines : g ≡ read_of (take 69 p) (drop 69 p)
  both_lines = read ∙ ap (read_of (take 69 p)) (take_all 69 (drop 69 p) (rw length-drop (omega arith)))

  pub unread : (why : Refusal) → g ≡ Err why → None ≡ place_of p
  unfolding place_of
  unread why e = rw (← both_lines, e)

  pub found_legal : (r : Record) → g ≡ Ok r → legal r ≡ true
  found_legal r e = accepted_are_legal (take 69 p) (drop 69 p) r (sym both_lines ∙ e)

  module _ (r : Record) (e : g ≡ Ok r) (x : Bool) (tested : x ≡ same p (pair_bytes r)) where
    pub is_pair : x ≡ true → Some r ≡ place_of p
    unfolding place_of
    is_pair h = rw (← both_lines, e, ← tested, h)

    pub is_other : x ≡ false → None ≡ place_of p
    unfolding place_of
    is_other h = rw (← both_lines, e, ← tested, h)
