use native.Mathlib.Omega.{arith}
use mathlib.Core.Path.{refl}
use Rattle.tle.specs.Legal.{legal}
use Rattle.tle_writer.specs.Over.{over}
use Rattle.roster.proofs.Pairs.{no_room, put_pair_over}
use Rattle.roster.proofs.places.put_pair.Goals as goal

pub returns-then-b-lt138 : goal.returns-then-b-lt138
returns-then-b-lt138 c = no_room c.args.r c.args.at c.args.b.now (omega arith)

pub returns-then-b-at : goal.returns-then-b-at
returns-then-b-at c = no_room c.args.r c.args.at c.args.b.now (omega arith)

pub returns : goal.returns
unfolding over
returns c =
    put_pair_over (legal c.args.r) c.args.r c.args.at c.args.b.now c.fill_line.new.out c.fill_line-2.new.out
    refl (omega arith) c.fill_line.ensures.1 c.fill_line-2.ensures.1
