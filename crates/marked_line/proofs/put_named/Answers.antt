use borrow.Author.Tests.{lt-ltb, le-ltb, eq-eqb, ne_eqb}
use Rattle.text.proofs.Pieces.{same}
use Rattle.marked_line.specs.Marked.{named}
use Rattle.marked_line.proofs.put_named.Goals as goal

pub returns-then-b-lt32 : goal.returns-then-b-lt32
unfolding named
returns-then-b-lt32 c =
    let p = c in
    same (simp (lt-ltb _ _ p.if-b-lt32.true)) p.put_numbered.ensures

pub returns-then-b-gt126 : goal.returns-then-b-gt126
unfolding named
returns-then-b-gt126 c =
    let p = c.before.before in
    let t = p in
    same (simp (le-ltb _ _ t.if-b-lt32.false, lt-ltb _ _ t.if-b-gt126.true)) p.put_numbered-then-b-gt126.ensures

pub returns-then-b-eq32 : goal.returns-then-b-eq32
unfolding named
returns-then-b-eq32 c =
    let p = c.before.before in
    let t = p in
    same (simp (le-ltb _ _ t.if-b-lt32.false, le-ltb _ _ t.if-b-gt126.false, eq-eqb _ _ t.if-b-eq32.true)) p.put_bytes.ensures

pub returns : goal.returns
unfolding named
returns c =
    let p = c.before.before in
    let t = p in
    same (simp (le-ltb _ _ t.if-b-lt32.false, le-ltb _ _ t.if-b-gt126.false, ne_eqb _ _ t.if-b-eq32.false)) p.put_quoted.ensures
