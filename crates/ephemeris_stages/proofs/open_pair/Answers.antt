use Prim.Native.Nat.{ℕ, ◌%◌}
use mathlib.Core.Path.{◌≡◌, ap}
use native.Mathlib.Omega.{arith}
use lib.ListN.{length}
use Rattle.text.proofs.Pieces.{same}
use Rattle.ephemeris_stages.specs.Stages.{refusal_of, opened_text}
use Rattle.ephemeris_stages.proofs.open_pair.Goals as goal

pub returns : goal.returns
unfolding refusal_of
returns c =
    let n = c.whole_in-n.ensures.value in
    let long : length c.args.numbers.now ≡ 83 = omega (arith, c.well_formed) in
    let marks : length c.args.marks.now ≡ 6 = omega (arith, c.well_formed) in
    let e = ap (λ (a : ℕ). a % 256) (rw (n, long, marks) at c.open_held-refusal.ensures.value) in
    record {
      says = same (ap (λ k. opened_text c.args.sep k) e) c.put_opened-said.ensures;
      numbers = rw n at c.open_held-refusal.ensures.numbers_after;
      marks = rw n at c.open_held-refusal.ensures.marks_after;
      behind = rw e at c.opened_stage-stage.ensures;
    }
