use mathlib.Core.Path.{refl, sym, ◌∙◌}
use mathlib.Core.Bool.{false≢true}
use native.Mathlib.Omega.{arith}
use lib.ListN.{take, drop}
use Rattle.io.proofs.Counting.{length-take_of_le}
use Rattle.line_input.proofs.Reading.{nothing, failed_before, over_before, waits_in, at_once, on}
use Rattle.line_input.proofs.next_line.Goals as goal

pub returns-then-failed : goal.returns-then-failed
returns-then-failed c =
    let s = c.args in
    rw c.finished.ensures
    (nothing s.failed.now s.input s.buffer.now s.line.now (failed_before s.failed.now s.input s.buffer.now s.line.now c.if-failed.true)
    (omega arith))

pub returns-then-input : goal.returns-then-input
returns-then-input c =
    let s = c.args in
    rw c.finished-then-input.ensures
    (nothing s.failed.now s.input s.buffer.now s.line.now (over_before s.failed.now s.input s.buffer.now s.line.now c.if-input.true)
    (omega arith))

pub slice_bounds-gather-end-2 : goal.slice_bounds-gather-end-2
slice_bounds-gather-end-2 c = let m = c in length-take_of_le _ _ (omega (arith, m.min-end.ensures))

-- what waited has the newline
pub returns-then-g : goal.returns-then-g
returns-then-g c =
    let g = c.before.before.before.before in
    let m = g.before.before.before in
    let i = m in
    let s = i.args in
    let w = waits_in s.failed.now s.input s.buffer.now s.line.now i.if-failed.false i.if-input.false m.min-end.ensures in
    record {
      next = rw (c.ended.ensures, w, i.if-failed.false)
          (at_once s.buffer.now s.input.at m.min-end.result g.gather-g.ensures c.if-g.true refl (omega arith));
      marked = λ k. k;
    }

-- it goes on
pub returns : goal.returns
returns c =
    let r = c.before.before.before.before in
    let t = r.before.before.before.before in
    let g = t.before.before.before in
    let m = g.before.before.before in
    let i = m in
    let s = i.args in
    let w = waits_in s.failed.now s.input s.buffer.now s.line.now i.if-failed.false i.if-input.false m.min-end.ensures in
    record {
      next = rw w (on (drop s.input.at (take m.min-end.result s.buffer.now)) _ (sym g.gather-g.ensures.ended ∙ t.if-g.false) g.gather-g.ensures.put r.read_on.ensures);
      marked = λ k. absurd (false≢true (sym i.if-failed.false ∙ k));
    }
