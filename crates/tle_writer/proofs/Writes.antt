-- A line closed by its checksum, and the answers of writing.
use Prim.Native.Nat.{ℕ, ◌%◌, ◌<◌, ◌≤◌}
use mathlib.Core.Path.{◌≡◌, refl, ap, ◌∙◌}
use mathlib.Core.List.{List, ◌++◌, append-nil}
use mathlib.Core.Bool.{true, false}
use native.Mathlib.Omega.{arith}
use borrow.Author.Tests.{le-leb, lt-leb}
use denote.Ref.{MutBor, at_last}
use lib.ListN.{length, take, drop, drop_of_length-le}
use lib.Seq.{drop-drop, take_at}
use Rattle.text.specs.Output.{bytes}
use Rattle.columns.specs.Sum.{sum}
use Rattle.tle.specs.Legal.{legal}
use Rattle.tle.specs.declared.Record.{Record}
use Rattle.tle.specs.declared.Line.{Line}
use Rattle.tle.specs.declared.Line.TheVariants.{One, Two}
use Rattle.tle_writer.specs.Field.{lead, digits}
use Rattle.tle_writer.specs.Lines.{join, body_of, closed_of, line_of}
use Rattle.tle_writer.specs.Over.{over}
use Rattle.tle_writer.specs.Write.{number_of, writing_of, after, written_over, Handed}
use Rattle.tle_writer.specs.Claims.{LinesLong}
use Rattle.std.specs.Prelude.{Err, Ok, Result}
use Rattle.tle_writer.specs.declared.WritingRefusal.TheVariants as writing
use Rattle.tle_writer.specs.declared.WritingRefusal.{WritingRefusal}
use Rattle.tle_writer.proofs.Bodies.{places}

pub closing : (l : List ℕ) (k : ℕ) → length l ≡ 69 → k ≡ sum (take 68 l) % 10 → over 68 1 (digits 1 k) l ≡ closed_of (take 68 l)
unfolding over closed_of lead
closing l k h e = rw (drop-drop 1 68 l, drop_of_length-le l {i = 69} (omega arith), e)

-- a line has 68 columns before its checksum
pub columns : (which : Line) (r : Record) → take 68 (body_of which r ++ bytes " ") ≡ body_of which r
unfolding body_of join lead
columns One r = rw (places r.designator)
columns Two r = refl

pub illegal : (r : Record) (which : Line) (out : List ℕ) → legal r ≡ false → ((Err writing.Illegal) ≡ writing_of r out) × (out ≡ written_over r which out)
unfolding writing_of written_over
illegal r which out e = (rw e, rw e)

pub short : (r : Record) (which : Line) (out : List ℕ) → legal r ≡ true → length out < 69 → ((Err writing.Short) ≡ writing_of r out) × (out ≡ written_over r which out)
unfolding writing_of written_over
short r which out e h = (rw (e, lt-leb 69 (length out) h), rw (e, lt-leb 69 (length out) h))

pub written : (r : Record) (which : Line) (out : List ℕ) → legal r ≡ true → 69 ≤ length out → ((Ok tt) ≡ writing_of r out) × (line_of which r ++ drop 69 out ≡ written_over r which out)
unfolding writing_of written_over
written r which out e h = (rw (e, le-leb 69 (length out) h), rw (e, le-leb 69 (length out) h))

pub length_line : LinesLong
unfolding line_of closed_of body_of join lead
length_line One r = rw (places r.designator)
length_line Two r = refl

pub zero_written : (w : Result (Unit {0}) WritingRefusal) → number_of w ≡ 0 → w ≡ Ok tt
zero_written (Ok tt) h = refl
zero_written (Err writing.Illegal) h = absurd (omega arith)
zero_written (Err writing.Short) h = absurd (omega arith)

-- a refusal leaves the room m as it was, and hands it back
refused_as : (w : Result (Unit {0}) WritingRefusal) (line m : List ℕ) (out : MutBor (List ℕ)) → (number_of w ≡ 0 → ⊥) → m ≡ after w line out.now → Handed w line out (at_last out m)
refused_as (Ok tt) line m out h e = absurd (h refl)
refused_as (Err writing.Illegal) line m out h e = ap (at_last out) e
refused_as (Err writing.Short) line m out h e = ap (at_last out) e

pub refused : (r : Record) (which : Line) (m : List ℕ) (out : MutBor (List ℕ)) → (number_of (writing_of r out.now) ≡ 0 → ⊥)
    → m ≡ written_over r which out.now → Handed (writing_of r out.now) (line_of which r) out (at_last out m)
unfolding written_over
refused r which m out h e = refused_as (writing_of r out.now) (line_of which r) m out h e

-- the room m after a line was written into out
module _ (r : Record) (which : Line) (out m : List ℕ) (e : m ≡ written_over r which out) (w : writing_of r out ≡ Ok tt) where
  room : m ≡ line_of which r ++ drop 69 out
  unfolding written_over
  room = e ∙ rw w

  pub front : take 69 m ≡ line_of which r
  front = ap (take 69) room ∙ take_at (line_of which r) (drop 69 out) 69 (length_line which r)

  pub front_long : length (take 69 m) ≡ 69
  front_long = ap length front ∙ length_line which r

  pub exactly : length out ≡ 69 → m ≡ line_of which r
  exactly h = room ∙ rw (drop_of_length-le out {i = 69} (omega arith)) (append-nil (line_of which r))
