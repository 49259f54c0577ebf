use native.Mathlib.Omega.{arith}
use mathlib.Core.Path.{sym, ◌∙◌}
use Rattle.roster.proofs.Found.{found, no_roster}
use Rattle.std.proofs.Common.{◌*◌}
use Rattle.roster_calls.proofs.Shifts.{closes}
use Rattle.roster_calls.proofs.Standing.{few, pair_fits, instant_fits, damaged, taken, absent}
use Rattle.roster_calls.proofs.withdraw.Goals as goal

pub returns-in_default : goal.returns-in_default
returns-in_default c =
    damaged c.args.number c.args.roster.now c.args.row.now
    (no_roster c.args.number c.args.roster.now c.args.row.now (sym c.judge-found.ensures ∙ c.in_default.is))

pub overflow_mul-place : goal.overflow_mul-place
overflow_mul-place c =
    omega (arith, few c.args.number c.args.roster.now c.args.row.now c.in-Some.t (found _ _ _ _ (sym c.judge-found.ensures ∙ c.in-Some.is)))

pub close_gap-requires : goal.close_gap-requires
close_gap-requires c =
    pair_fits c.args.number c.args.roster.now c.args.row.now c.in-Some.t (found _ _ _ _ (sym c.judge-found.ensures ∙ c.in-Some.is)) c.if-t.true

pub close_gap-requires-then-t : goal.close_gap-requires-then-t
close_gap-requires-then-t c =
    instant_fits c.args.number c.args.roster.now c.args.row.now c.in-Some.t (found _ _ _ _ (sym c.judge-found.ensures ∙ c.in-Some.is)) c.if-t.true

pub returns-then-t : goal.returns-then-t
returns-then-t c =
    taken c.args.number c.args.roster.now c.args.row.now c.in-Some.t (found _ _ _ _ (sym c.judge-found.ensures ∙ c.in-Some.is)) c.close_gap.new.s c.close_gap-then-t.new.s
    c.if-t.true (closes _ _ (c.in-Some.t.below * 138) 138 c.close_gap.ensures) (closes _ _ c.in-Some.t.below 1 c.close_gap-then-t.ensures)

pub returns : goal.returns
returns c =
    absent c.args.number c.args.roster.now c.args.row.now c.in-Some.t (found _ _ _ _ (sym c.judge-found.ensures ∙ c.in-Some.is)) c.if-t.false
