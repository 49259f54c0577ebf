use mathlib.Core.Path.{◌≡◌, sym, ◌∙◌}
use mathlib.Core.Bool.{false}
use Rattle.roster.specs.Roster.{is_none}
use Rattle.roster.specs.Row.{roster_with}
use Rattle.compare.specs.Walk.{Holding}
use Rattle.compare.proofs.Places.{holding}
use Rattle.compare.proofs.Answers.{no_first, no_second, no_room, written, with_rows}
use Rattle.compare.proofs.compare.Tie as tie
use Rattle.compare.proofs.compare.Lts as lts
use Rattle.compare.proofs.compare.Reads as reads
use Rattle.compare.proofs.compare.Goals as goal

pub returns-then-is_no_roster : goal.returns-then-is_no_roster
returns-then-is_no_roster c =
    let a = c.args in
    no_first (roster_with a.first.now a.row1.now) (roster_with a.second.now a.row2.now) a.out.now (sym c.is_no_roster.ensures ∙ c.if-is_no_roster.true)

pub returns-then-is_no_roster-2 : goal.returns-then-is_no_roster-2
returns-then-is_no_roster-2 c =
    let a = c.args in
    no_second (roster_with a.first.now a.row1.now) (roster_with a.second.now a.row2.now) a.out.now
    (sym c.is_no_roster.ensures ∙ c.if-is_no_roster.false) (sym c.is_no_roster-2.ensures ∙ c.if-is_no_roster-2.true)

-- both are rosters with their rows
rowed : (f : (lts.Else2 tie.the-claims reads.Pre reads.Post)) → let s = f.args in
    (is_none (roster_with s.first.now s.row1.now) ≡ false) × (is_none (roster_with s.second.now s.row2.now) ≡ false)
rowed f =
    (sym f.is_no_roster.ensures ∙ f.if-is_no_roster.false, sym f.is_no_roster-2.ensures ∙ f.if-is_no_roster-2.false)

both : (f : (lts.Else2 tie.the-claims reads.Pre reads.Post)) → let s = f.args in Holding s.first.now × Holding s.second.now
both f =
    let s = f.args in
    (holding s.first.now s.row1.now (rowed f).0, holding s.second.now s.row2.now (rowed f).1)

pub lacks_room-requires : goal.lacks_room-requires
lacks_room-requires c = both c.before

pub returns-then-lacks_room : goal.returns-then-lacks_room
returns-then-lacks_room c =
    let f = c.before.before in
    let s = c.args in
    with_rows s.first.now s.second.now s.row1.now s.row2.now s.out.now _ _ (rowed f.before).0 (rowed f.before).1
    (no_room s.first.now s.second.now (both f.before).0 (both f.before).1 s.out.now (sym c.lacks_room.ensures ∙ c.if-lacks_room.true))

pub put_changes-n-requires : goal.put_changes-n-requires
put_changes-n-requires c = both c.before.before.before.before

pub returns : goal.returns
returns c =
    let f = c.before.before.before.before.before.before in
    let s = c.args in
    with_rows s.first.now s.second.now s.row1.now s.row2.now s.out.now _ _ (rowed f.before).0 (rowed f.before).1
    (written s.first.now s.second.now (both f.before).0 (both f.before).1 s.out.now _ _ (sym c.lacks_room.ensures ∙ c.if-lacks_room.false) c.put_changes-n.ensures)
