use Rattle.std.proofs.Common.{refl, sym, ap, ◌∙◌, [], ◌++◌, take, false, cond, nat_lt, arith}
use Rattle.line_input.proofs.Reading.{none, more, last, newline}
use Rattle.line_input.proofs.read_on.Goals as goal

pub loop-init : goal.loop-init
loop-init c = (refl, refl, c.requires, none (omega arith) (omega arith))

-- a read failed
pub returns-then-failed : goal.returns-then-failed
returns-then-failed c =
    let l = c.loop in
    rw c.finished.ensures (last l.invariant.3 _ _ _ (sym (ap (λ t. cond t false (nat_lt 0 l.size)) c.if-failed.true)))

-- the input ended
pub returns-then-end-eq0 : goal.returns-then-end-eq0
returns-then-end-eq0 c =
    let l = c.loop in
    rw c.finished-then-end-eq0.ensures (last l.invariant.3 _ _ _ (sym (ap (λ t. cond t false (nat_lt 0 l.size)) c.if-failed.false)))

-- a newline ended the line
pub returns-then-g : goal.returns-then-g
returns-then-g c =
    let r = c.read-end in
    let l = c.loop in
    rw (c.ended.ensures, c.if-failed.false)
    (newline r.new.buffer 0 r.result c.gather-g.ensures c.if-g.true [] (l.invariant.3.came ++ take r.result r.new.buffer) l.invariant.3.came refl l.invariant.3.unended l.invariant.3.put)

pub loop-preserved : goal.loop-preserved
loop-preserved c =
    let r = c.read-end in
    let l = c.loop in (
      r.auto.buffer ∙ l.invariant.0,
      c.gather-g.auto.line ∙ l.invariant.1,
      c.if-failed.false,
      more (take r.result r.new.buffer) l.invariant.3 c.gather-g.ensures c.if-g.false,
    )

-- the turns are used up
pub returns : goal.returns
returns c =
    let l = c.loop in
    rw c.finished-2.ensures (last l.invariant.3 _ _ _ (sym (ap (λ t. cond t false (nat_lt 0 l.size)) l.invariant.2)))
