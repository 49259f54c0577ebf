-- The folder of a file's name: what stands before its last slash, and the slash.
use Rattle.std.specs.Prelude.{ℕ, suc, cond, List, [], ◌∷◌, eqb}
use Prim.Native.Char.{code}

-- how many bytes the folder has, of a name behind i bytes whose folder has n
unfoldable pub folder_from : ℕ → ℕ → List ℕ → ℕ
folder_from i n [] = n
folder_from i n (b ∷ name) = folder_from (suc i) (cond (eqb b (code "/")) (suc i) n) name

unfoldable pub folder_size : List ℕ → ℕ
folder_size name = folder_from 0 0 name
