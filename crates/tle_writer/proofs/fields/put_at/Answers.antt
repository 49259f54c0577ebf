use Prim.Native.Nat.{◌+◌, ◌-◌}
use mathlib.Core.Path.{◌≡◌}
use native.Mathlib.Omega.{arith}
use native.Mathlib.Nat.{add-sub_cancel_left}
use lib.ListN.{length, take, drop}
use borrow.Author.Rules.{rules}
use Rattle.tle.proofs.Steps.{part_length}
use Rattle.tle_writer.specs.Over.{over}
use Rattle.tle_writer.proofs.Overs.{length_lead}
use Rattle.tle_writer.proofs.fields.put_at.Goals as goal

pub returns : goal.returns
unfolding over
returns c =
    let a = c.args in
    let k : length a.line ≡ 69 = search rules in
    let n : length (take a.w (drop a.at a.line)) ≡ a.w = part_length a.line a.at a.w (omega (arith, c.requires)) in
    record {
      is = rw (c.put.ensures, add-sub_cancel_left a.at a.w, n);
      wide = length_lead a.z a.w a.n;
    }
