use Prim.Native.Nat.{◌-◌}
use mathlib.Core.Path.{◌≡◌, ap}
use mathlib.Core.Bool.{cond}
use native.Mathlib.Omega.{arith}
use lib.ListN.{length, take}
use lib.Seq.{take_all}
use borrow.Author.Tests.{le-leb, lt-leb}
use Rattle.pair_lines.specs.Sort.{sort_of}
use Rattle.pair_lines.specs.declared.Remark.TheVariants as remark
use Rattle.pair_steps.specs.declared.Fate.TheVariants.{Alone}
use Rattle.pair_steps.specs.Fate.{fate_of, fate_in, waiting}
use Rattle.pair_steps.proofs.take_counted.Goals as goal

pub returns-then-size-room : goal.returns-then-size-room
unfolding fate_in
returns-then-size-room c =
    let t = c.before.before.before.before in
    let f = t.before.before.before in
    let i = f in
    let s = i.args in
    let n : s.size - 0 ≡ s.size = omega arith in
    let line = ap (λ k. take k s.room.now) n in
    let fate = ap (λ t. cond t (fate_of (waiting s.p) (sort_of (take s.size s.room.now))) (Alone remark.TooLong)) (le-leb s.size (length s.room.now) i.if-size-room.true) in
    rw fate (rw (f.fate_of.ensures, f.sort_of.ensures, line) at t.take_line.ensures)

pub returns : goal.returns
unfolding fate_in
returns c =
    let t = c.before.before.before.before in
    let i = t in
    let s = i.args in
    let fate = ap (λ t. cond t (fate_of (waiting s.p) (sort_of (take s.size s.room.now))) (Alone remark.TooLong)) (lt-leb s.size (length s.room.now) i.if-size-room.false) in
    rw (fate, take_all s.size s.room.now (omega arith)) t.take_line-2.ensures
