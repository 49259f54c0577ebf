use native.Mathlib.Omega.{arith}
use mathlib.Core.Path.{sym}
use Rattle.text.specs.Output.{bytes}
use Rattle.std.specs.Prelude.{Some}
use Rattle.compare.proofs.Turns.{turned_at, stands_at, line_of, last_first, last_second, two_left, no_turn}
use Rattle.compare.proofs.put_turn.Goals as goal

pub put_pairs-requires : goal.put_pairs-requires
put_pairs-requires c =
    let a = c.args in
    (stands_at a.a.now a.i (Some _) a.x (sym c.in-Some.is) c.requires.0, stands_at a.b.now a.j (Some _) a.y (sym c.in-Some-y.is) c.requires.1)

pub put_place-next-requires : goal.put_place-next-requires
put_place-next-requires c =
    let a = c.args in
    let S = stands_at a.a.now a.i (Some _) a.x (sym c.in-Some.is) c.requires.0 in
    (S.inside, S.long)

pub put_place-next-requires-in-Some-y-2 : goal.put_place-next-requires-in-Some-y-2
put_place-next-requires-in-Some-y-2 c =
    let a = c.args in
    let S = stands_at a.b.now a.j (Some _) a.y (sym c.in-Some-y-2.is) c.requires.1 in
    (S.inside, S.long)

pub returns-in-Some-y : goal.returns-in-Some-y
returns-in-Some-y c =
    let a = c.args in
    turned_at a.x a.y _ _ c.in-Some.is c.in-Some-y.is (two_left _ _ c.put_pairs.ensures)

pub returns-in-None-y : goal.returns-in-None-y
returns-in-None-y c =
    let a = c.args in
    let S = stands_at a.a.now a.i (Some _) a.x (sym c.in-Some.is) c.requires.0 in
    turned_at a.x a.y _ _ c.in-Some.is c.in-None-y.is (last_first _ (line_of (bytes "first") a.a.now a.i _ S c.put_place-next.ensures))

pub returns-in-Some-y-2 : goal.returns-in-Some-y-2
returns-in-Some-y-2 c =
    let a = c.args in
    let S = stands_at a.b.now a.j (Some _) a.y (sym c.in-Some-y-2.is) c.requires.1 in
    turned_at a.x a.y _ _ c.in-None.is c.in-Some-y-2.is (last_second _ (line_of (bytes "second") a.b.now a.j _ S c.put_place-next-in-Some-y-2.ensures))

pub returns-in-None-y-2 : goal.returns-in-None-y-2
returns-in-None-y-2 c =
    let a = c.args in
    turned_at a.x a.y _ _ c.in-None.is c.in-None-y-2.is (no_turn (omega arith) (omega arith))
