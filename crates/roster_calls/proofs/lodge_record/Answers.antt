use native.Mathlib.Omega.{arith}
use mathlib.Core.Path.{sym, ◌∙◌}
use Rattle.roster.proofs.Epochs.{instant_legal}
use Rattle.roster.proofs.Found.{found, no_roster}
use Rattle.roster_calls.proofs.Standing.{few, gap_fits, instant_fits, row_fits, refused, older, newer, full, fresh}
use Rattle.roster_calls.proofs.lodge_record.Goals as goal

pub returns-in_default : goal.returns-in_default
returns-in_default c =
    refused c.args.r c.args.roster.now c.args.row.now
    (no_roster c.args.r.number c.args.roster.now c.args.row.now (sym c.judge-found.ensures ∙ c.in_default.is))

pub overflow_mul-at : goal.overflow_mul-at
overflow_mul-at c =
    omega (arith, few c.args.r.number c.args.roster.now c.args.row.now c.in-Some.t (found _ _ _ _ (sym c.judge-found.ensures ∙ c.in-Some.is)))

pub offset_bounds-row-place : goal.offset_bounds-row-place
offset_bounds-row-place c =
    omega (arith, few c.args.r.number c.args.roster.now c.args.row.now c.in-Some.t (found _ _ _ _ (sym c.judge-found.ensures ∙ c.in-Some.is)))

pub bounds-row-place : goal.bounds-row-place
bounds-row-place c =
    omega (arith, instant_fits c.args.r.number c.args.roster.now c.args.row.now c.in-Some.t (found _ _ _ _ (sym c.judge-found.ensures ∙ c.in-Some.is)) c.if-t.true)

pub returns-then-since-old : goal.returns-then-since-old
returns-then-since-old c =
    older c.args.r c.args.roster.now c.args.row.now c.in-Some.t (found _ _ _ _ (sym c.judge-found.ensures ∙ c.in-Some.is)) c.instant_of-since.result.0 (c.instant_of-since.ensures ∙ instant_legal c.args.r c.requires) c.if-t.true c.if-since-old.true

pub offset_bounds-row-place-then-t : goal.offset_bounds-row-place-then-t
offset_bounds-row-place-then-t c =
    omega (arith, few c.args.r.number c.args.roster.now c.args.row.now c.in-Some.t (found _ _ _ _ (sym c.judge-found.ensures ∙ c.in-Some.is)))

pub bounds-row-place-then-t : goal.bounds-row-place-then-t
bounds-row-place-then-t c =
    omega (arith, instant_fits c.args.r.number c.args.roster.now c.args.row.now c.in-Some.t (found _ _ _ _ (sym c.judge-found.ensures ∙ c.in-Some.is)) c.if-t.true)

pub returns-then-t : goal.returns-then-t
returns-then-t c =
    newer c.args.r c.args.roster.now c.args.row.now c.in-Some.t (found _ _ _ _ (sym c.judge-found.ensures ∙ c.in-Some.is)) c.instant_of-since.result.0 (c.instant_of-since.ensures ∙ instant_legal c.args.r c.requires) c.if-t.true
    c.put_pair.new.b c.if-since-old.false c.requires c.put_pair.ensures

pub returns-then-t-ge64 : goal.returns-then-t-ge64
returns-then-t-ge64 c =
    full c.args.r c.args.roster.now c.args.row.now c.in-Some.t (found _ _ _ _ (sym c.judge-found.ensures ∙ c.in-Some.is)) c.instant_of-since.result.0 (c.instant_of-since.ensures ∙ instant_legal c.args.r c.requires) c.if-t.false c.if-t-ge64.true

pub open_gap-requires : goal.open_gap-requires
open_gap-requires c =
    gap_fits c.args.r.number c.args.roster.now c.args.row.now c.in-Some.t (found _ _ _ _ (sym c.judge-found.ensures ∙ c.in-Some.is)) c.if-t.false c.if-t-ge64.false

pub open_gap-requires-2 : goal.open_gap-requires-2
open_gap-requires-2 c =
    row_fits c.args.r.number c.args.roster.now c.args.row.now c.in-Some.t (found _ _ _ _ (sym c.judge-found.ensures ∙ c.in-Some.is)) c.if-t.false c.if-t-ge64.false

pub offset_bounds-row-place-2 : goal.offset_bounds-row-place-2
offset_bounds-row-place-2 c =
    omega (arith, few c.args.r.number c.args.roster.now c.args.row.now c.in-Some.t (found _ _ _ _ (sym c.judge-found.ensures ∙ c.in-Some.is)))

pub bounds-row-place-2 : goal.bounds-row-place-2
bounds-row-place-2 c =
    omega (arith, c.open_gap-2.auto.s, row_fits c.args.r.number c.args.roster.now c.args.row.now c.in-Some.t (found _ _ _ _ (sym c.judge-found.ensures ∙ c.in-Some.is)) c.if-t.false c.if-t-ge64.false)

pub returns : goal.returns
returns c =
    fresh c.args.r c.args.roster.now c.args.row.now c.in-Some.t (found _ _ _ _ (sym c.judge-found.ensures ∙ c.in-Some.is)) c.instant_of-since.result.0 (c.instant_of-since.ensures ∙ instant_legal c.args.r c.requires) c.if-t.false
    c.open_gap.new.s c.put_pair-2.new.b c.open_gap-2.new.s c.if-t-ge64.false c.requires c.open_gap.auto.s c.open_gap-2.auto.s
    c.open_gap.ensures c.put_pair-2.ensures c.open_gap-2.ensures
