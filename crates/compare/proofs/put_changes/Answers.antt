use native.Mathlib.Omega.{arith}
use Prim.Native.Nat.{◌+◌, ◌≤◌}
use Rattle.compare.specs.Walk.{records_in}
use Rattle.compare.proofs.Places.{few, stands}
use Rattle.compare.proofs.Turns.{Going, start, more, finish, stands_at, after_turn}
use Rattle.compare.proofs.put_changes.Tie as tie
use Rattle.compare.proofs.put_changes.Lts as lts
use Rattle.compare.proofs.put_changes.Reads as reads
use Rattle.compare.proofs.put_changes.Goals as goal

pub place_at-x-requires : goal.place_at-x-requires
place_at-x-requires c = c.requires.0

pub place_at-y-requires : goal.place_at-y-requires
place_at-y-requires c = c.requires.1

pub loop-init : goal.loop-init
loop-init c =
    let a = c.args.a.now in
    let b = c.args.b.now in
    record {
      first_few = omega arith;
      second_few = omega arith;
      first_next = c.place_at-x.ensures;
      second_next = c.place_at-y.ensures;
      going = start (records_in a) (records_in b) (omega arith) (omega arith) (few a c.requires.0) (few b c.requires.1);
    }

pub put_turn-t-requires : goal.put_turn-t-requires
put_turn-t-requires c = (
  stands_at c.args.a.now c.loop.i c.loop.x _ c.loop.invariant.first_next (stands c.args.a.now c.requires.0 c.loop.i),
  stands_at c.args.b.now c.loop.j c.loop.y _ c.loop.invariant.second_next (stands c.args.b.now c.requires.1 c.loop.j),
)

-- the turn that was made
turned : (p : (lts.After-put_turn tie.the-claims reads.Pre reads.Post goal.the-invariant-loop goal.the-decreases-loop))
    → let s = p.args in
    let t = p.put_turn-t.result in
    Going s.out.now 0 (records_in s.a.now) (records_in s.b.now) p.put_turn-t.new.out t.next (p.loop.i + t.first) (p.loop.j + t.second) (p.loop.counter + 1)
    × (t.first ≤ 1) × (t.second ≤ 1)
turned p =
    let s = p.args in
    more (records_in s.a.now) (records_in s.b.now) p.loop.invariant.going p.loop.x p.loop.y p.put_turn-t.new.out p.put_turn-t.result p.loop.invariant.first_next p.loop.invariant.second_next p.put_turn-t.ensures

pub overflow_add-i : goal.overflow_add-i
overflow_add-i c =
    let p = c.before.before.before in
    let m = turned p.before in
    omega (arith, m.1, c.loop.invariant.first_few, p.before.before)

pub overflow_add-j : goal.overflow_add-j
overflow_add-j c =
    let p = c.before.before.before.before in
    let m = turned p.before in
    omega (arith, m.2, c.loop.invariant.second_few, p.before.before)

pub place_after-x-requires : goal.place_after-x-requires
place_after-x-requires c = c.requires.0

pub place_after-y-requires : goal.place_after-y-requires
place_after-y-requires c = c.requires.1

pub loop-preserved : goal.loop-preserved
loop-preserved c =
    let p = c.before.before.before.before.before.before in
    let m = turned p.before in
    record {
      first_few = omega (arith, m.1, c.loop.invariant.first_few);
      second_few = omega (arith, m.2, c.loop.invariant.second_few);
      first_next = after_turn c.loop.i c.put_turn-t.result.first (records_in c.args.a.now) c.loop.x c.place_after-x.result c.loop.invariant.first_next c.place_after-x.ensures;
      second_next = after_turn c.loop.j c.put_turn-t.result.second (records_in c.args.b.now) c.loop.y c.place_after-y.result c.loop.invariant.second_next c.place_after-y.ensures;
      going = m.0;
    }

pub returns : goal.returns
returns c = finish (records_in c.args.a.now) (records_in c.args.b.now) c.loop.invariant.going c.loop-test.false
