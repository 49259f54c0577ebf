use native.Mathlib.Omega.{arith}
use mathlib.Core.Path.{refl}
use Rattle.tle.proofs.Meaning.{passed_up, gone_on_lem}
use Rattle.compare.proofs.Places.{past_end, is_empty, is_pair, is_refused_lem}
use Rattle.compare.proofs.place_at.Goals as goal

pub returns-then-i-ge64 : goal.returns-then-i-ge64
returns-then-i-ge64 c = past_end c.args.b.now c.requires c.args.i c.if-i-ge64.true

pub slice_bounds-all_zero-count : goal.slice_bounds-all_zero-count
slice_bounds-all_zero-count c = omega arith

pub returns-then-all_zero : goal.returns-then-all_zero
returns-then-all_zero c =
    is_empty c.args.b.now c.requires c.args.i c.if-i-ge64.false c.all_zero.result c.all_zero.ensures c.if-all_zero.true

pub returns-in_default : goal.returns-in_default
returns-in_default c =
    is_refused_lem c.args.b.now c.requires c.args.i c.if-i-ge64.false c.all_zero.result c.all_zero.ensures c.if-all_zero.false _
    (passed_up _ _ c.read_form-form.ensures c.in_default.is) _ refl

pub returns-in-Ok-read_meaning : goal.returns-in-Ok-read_meaning
returns-in-Ok-read_meaning c =
    is_pair c.args.b.now c.requires c.args.i c.if-i-ge64.false c.all_zero.result c.all_zero.ensures c.if-all_zero.false c.read_meaning.result
    (gone_on_lem _ _ c.read_form-form.ensures c.in-Ok.is c.read_meaning.ensures) _ c.in-Ok-read_meaning.is

pub returns-in-Err : goal.returns-in-Err
returns-in-Err c =
    is_refused_lem c.args.b.now c.requires c.args.i c.if-i-ge64.false c.all_zero.result c.all_zero.ensures c.if-all_zero.false c.read_meaning.result
    (gone_on_lem _ _ c.read_form-form.ensures c.in-Ok.is c.read_meaning.ensures) _ c.in-Err.is
