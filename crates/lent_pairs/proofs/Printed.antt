-- What printing says of the bytes written.
use Prim.Native.Nat.{ℕ, ◌≤◌}
use mathlib.Core.Path.{◌≡◌}
use mathlib.Core.Bool.{Bool, true, false, cond}
use mathlib.Core.List.{List}
use native.Mathlib.Omega.{arith}
use lib.Dec.{leb}
use lib.ListN.{length}
use Rattle.tle.specs.Read.{read_of}
use Rattle.std.specs.Prelude.{None, Some}
use Rattle.listing.specs.Listing as T
use Rattle.listing.proofs.Lengths.{reading_within}

absurd : {B : Type 0} → ⊥ → B
absurd = elim [ ]

-- at most 900 bytes are written
counted : (b : Bool) (m n : ℕ) → cond b (Some m) None ≡ Some n → m ≤ 900 → n ≤ 900
counted true m n e h = let k : m ≡ n = cc in omega arith
counted false m n e h = let z : ◌≡◌ {A = ℕ} 0 1 = cc in absurd (omega arith)

pub written_fits : (line1 line2 : List ℕ) (room n : ℕ) → T.answer (T.reading_text (read_of line1 line2)) room ≡ Some n → n ≤ 900
unfolding T.answer
written_fits line1 line2 room n e =
    let text = T.reading_text (read_of line1 line2) in
    counted (leb (length text) room) (length text) n e (reading_within (read_of line1 line2))
