-- One turn of the search for a name's last slash, and its end.
use Prim.Native.Nat.{ℕ, ◌+◌, ◌<◌, ◌≤◌}
use mathlib.Core.Path.{◌≡◌}
use mathlib.Core.List.{List}
use mathlib.Core.Bool.{cond}
use native.Mathlib.Numerals.{add-one}
use lib.Dec.{eqb}
use lib.ListN.{length, drop, get_or, drop_of_length-le}
use lib.Seq.{drop-cons}
use Rattle.files.specs.Folder.{folder_from}

module _ (s : List ℕ) (i n : ℕ) where
  pub turn : i < length s → folder_from i n (drop i s) ≡ folder_from (i + 1) (cond (eqb (get_or s i 0) 47) (i + 1) n) (drop (i + 1) s)
  unfolding folder_from
  turn h = rw (drop-cons s i 0 h, add-one)

  pub none_left : length s ≤ i → folder_from i n (drop i s) ≡ n
  unfolding folder_from
  none_left h = rw (drop_of_length-le s {i = i} h)
