use Rattle.text.specs.Output.{bytes}
use Rattle.compare.proofs.Turns.{line_of, only_first, only_second, in_both}
use Rattle.compare.proofs.put_pairs.Goals as goal

pub put_place-next-requires : goal.put_place-next-requires
put_place-next-requires c = let S = c.requires.1 in (S.inside, S.long)

pub returns-then-y-x : goal.returns-then-y-x
returns-then-y-x c =
    let a = c.args in
    only_second a.x a.y c.if-y-x.true (line_of (bytes "second") a.b.now a.j a.y c.requires.1 c.put_place-next.ensures)

pub returns-then-y-x-2 : goal.returns-then-y-x-2
returns-then-y-x-2 c =
    let a = c.args in
    in_both a.x a.y c.if-y-x-2.true c.requires.0.good c.requires.1.good c.put_fields-next.ensures

pub put_place-next-requires-2 : goal.put_place-next-requires-2
put_place-next-requires-2 c = let S = c.requires.0 in (S.inside, S.long)

pub returns : goal.returns
returns c =
    let a = c.args in
    only_first a.x a.y c.if-y-x.false c.if-y-x-2.false (line_of (bytes "first") a.a.now a.i a.x c.requires.0 c.put_place-next-2.ensures)
