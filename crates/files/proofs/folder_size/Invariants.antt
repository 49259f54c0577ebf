use Prim.Native.Nat.{◌≤◌}
use mathlib.Core.Path.{◌≡◌}
use lib.ListN.{drop}
use Rattle.files.specs.Folder.{folder_from, folder_size}
use Rattle.files.proofs.folder_size.Given as goal

abbrev pub invariant-loop-i : goal.invariant-loop-i
invariant-loop-i l = (l.size ≤ l.i) × (folder_from l.i l.size (drop l.i l.name) ≡ folder_size l.name)
