use borrow.Author.Rules.{rules}
use native.Mathlib.Omega.{arith}
use mathlib.Core.Path.{refl, sym, ◌∙◌}
use lib.ListN.{length-set}
use Rattle.roster.proofs.Epochs.{instant_legal}
use Rattle.roster.proofs.Pairs.{place_sound}
use Rattle.roster.proofs.Passes.{pass_full, pass_ended, pass_damaged, pass_disordered, pass_more, small}
use Rattle.roster.proofs.Rows.{starting}
use Rattle.roster.proofs.scan.scan_places.Goals as goal

pub loop-i-init : goal.loop-i-init
loop-i-init c = record { counted_all = refl; below_few = search rules; row_length = refl; passed = starting c.args.b.now c.args.number c.requires }

pub returns-then-all_zero : goal.returns-then-all_zero
returns-then-all_zero c =
    pass_ended c.args.b.now c.args.number c.loop-i.i c.loop-i.t c.loop-i.row c.loop-i.invariant.passed
    c.all_zero.result c.all_zero.ensures c.if-all_zero.true

pub returns-in_default : goal.returns-in_default
returns-in_default c =
    pass_damaged c.args.b.now c.args.number c.loop-i.i c.loop-i.t c.loop-i.row c.loop-i.invariant.passed
    c.all_zero.result c.all_zero.ensures (omega arith) c.if-all_zero.false c.place_at-place.result c.place_at-place.ensures c.in_default.is

pub returns-then-r-t : goal.returns-then-r-t
returns-then-r-t c =
    pass_disordered c.args.b.now c.args.number c.loop-i.i c.loop-i.t c.loop-i.row c.loop-i.invariant.passed
    c.all_zero.result c.all_zero.ensures (omega arith) c.if-all_zero.false c.place_at-place.result c.place_at-place.ensures
    _ c.in-Some.is c.if-r-t.true

pub counted-t-requires : goal.counted-t-requires
counted-t-requires c =
    let l = c.before.before.before.before.before.before.before.before.before.before.before.before.before in
    let sound = place_sound _ c.in-Some.r (sym c.place_at-place.ensures ∙ c.in-Some.is) in
    (omega (arith, l), omega (arith, l), sound.1)

pub loop-i-preserved : goal.loop-i-preserved
loop-i-preserved c =
    let e = c.before.before.before.before.before.before.before.before.before.before in
    let r = c.in-Some.r in
    let sound = place_sound _ r (sym c.place_at-place.ensures ∙ c.in-Some.is) in
    let n = small c.loop-i.t c.counted-t.result r c.loop-i.i c.loop-i.invariant.counted_all c.loop-i.invariant.below_few c.counted-t.ensures in
    record {
      counted_all = n.0;
      below_few = n.1;
      row_length = length-set c.loop-i.row c.loop-i.i c.instant_of.result.0 ∙ c.loop-i.invariant.row_length;
      passed = pass_more c.args.b.now c.args.number c.loop-i.i c.loop-i.t c.loop-i.row c.loop-i.invariant.passed
          c.all_zero.result c.all_zero.ensures (omega (arith, e)) c.if-all_zero.false c.place_at-place.result c.place_at-place.ensures
          r c.counted-t.result c.instant_of.result.0 c.in-Some.is c.if-r-t.false c.counted-t.ensures
          (c.instant_of.ensures ∙ instant_legal r sound.1);
    }

pub returns : goal.returns
returns c =
    pass_full c.args.b.now c.args.number c.loop-i.i c.loop-i.t c.loop-i.row c.loop-i.invariant.passed c.loop-i-test.false
