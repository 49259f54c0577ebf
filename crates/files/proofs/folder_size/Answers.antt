use native.Mathlib.Omega.{arith}
use Prim.Native.Nat.{◌+◌}
use mathlib.Core.Path.{refl, sym, ap, ◌∙◌}
use lib.ListN.{drop}
use Rattle.io.proofs.Counting.{prefix_len_of_le}
use Rattle.files.specs.Folder.{folder_from, folder_size}
use Rattle.files.proofs.Folders.{turn, none_left}
use Rattle.files.proofs.folder_size.Goals as goal

pub loop-i-init : goal.loop-i-init
unfolding folder_size
loop-i-init c = (omega arith, refl)

pub folder_after-size-requires : goal.folder_after-size-requires
folder_after-size-requires c = omega (arith, c.loop-i.invariant.0)

pub loop-i-preserved : goal.loop-i-preserved
loop-i-preserved c =
    let a = c.folder_after-size.ensures in
    let s = c.args.name.now in (
      a.1,
      ap (λ n. folder_from (c.loop-i.i + 1) n (drop (c.loop-i.i + 1) s)) a.0 ∙ sym (turn s c.loop-i.i c.loop-i.size (omega arith)) ∙ c.loop-i.invariant.1,
    )

pub returns : goal.returns
returns c =
    let s = c.args.name.now in
    (sym (none_left s c.loop-i.i c.loop-i.size (omega arith)) ∙ c.loop-i.invariant.1, prefix_len_of_le _ _ (omega (arith, c.loop-i.invariant.0)))
