use mathlib.Core.Path.{◌≡◌, sym, refl, ap, ◌∙◌}
use denote.Ref.{at_last}
use Rattle.tle_writer.specs.Write.{number_of, writing_of}
use Rattle.std.specs.Prelude.{Ok, Result}
use Rattle.tle_writer.specs.declared.WritingRefusal.{WritingRefusal}
use Rattle.tle_writer.proofs.Writes.{refused, zero_written, front, front_long, exactly}
use Rattle.tle_writer.proofs.write_line.Tie as tie
use Rattle.tle_writer.proofs.write_line.Lts as lts
use Rattle.tle_writer.proofs.write_line.Reads as reads
use Rattle.tle_writer.proofs.write_line.Goals as goal

-- The part is the front of what fill_line wrote, or the room that it left alone.
-- the answer, its number, and that 0 is Written
abbrev answer : (lts.After-writing_number tie.the-claims reads.Pre reads.Post tie.handed_clauses) → Result (Unit {0}) WritingRefusal
answer c = let a = c.args in writing_of a.r a.out.now

told : (c : (lts.After-writing_number tie.the-claims reads.Pre reads.Post tie.handed_clauses)) → c.writing_number-k.result ≡ number_of (answer c)
told c = c.writing_number-k.ensures ∙ ap number_of c.fill_line.ensures.0

written : (c : (lts.After-writing_number tie.the-claims reads.Pre reads.Post tie.handed_clauses)) → c.writing_number-k.result ≡ 0 → answer c ≡ Ok tt
written c z = zero_written (answer c) (sym (told c) ∙ z)

pub returns-then-k-ne0 : goal.returns-then-k-ne0
returns-then-k-ne0 c =
    let n = c.before in
    let a = c.args in
    record { handed = refused a.r a.which _ a.out (λ z. c.if-k-ne0.true (told n ∙ z)) c.fill_line.ensures.1; why_after = told n }

pub returns-then-room-eq69 : goal.returns-then-room-eq69
returns-then-room-eq69 c =
    let n = c.before.before in
    let a = c.args in
    let z = written n c.if-k-ne0.false in
    let m = exactly a.r a.which a.out.now _ c.fill_line.ensures.1 z c.if-room-eq69.true in
    record { handed = rw z (record { bytes = m; begins = refl; whole = λ _. ap (at_last a.out) m }); why_after = told n }

pub slice_bounds-result-end : goal.slice_bounds-result-end
slice_bounds-result-end c =
    let n = c.before.before.before in
    let a = c.args in
    sym (front_long a.r a.which a.out.now _ c.fill_line.ensures.1 (written n c.if-k-ne0.false))

pub returns : goal.returns
returns c =
    let n = c.before.before.before in
    let a = c.args in
    let z = written n c.if-k-ne0.false in record {
      handed = rw z (record {
        bytes = front a.r a.which a.out.now _ c.fill_line.ensures.1 z;
        begins = refl;
        whole = λ q. absurd (c.if-room-eq69.false q);
      });
      why_after = told n;
    }
