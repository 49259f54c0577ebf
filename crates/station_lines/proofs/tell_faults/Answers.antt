use Prim.Native.Nat.{ℕ, ◌+◌, min}
use mathlib.Core.Path.{◌≡◌, sym}
use mathlib.Core.Bool.{true, false}
use native.Mathlib.Omega.{arith}
use lib.Dec.{eqb}
use borrow.Author.Tests.{eq-eqb, ne_eqb}
use Rattle.text.specs.Output.{most}
use Rattle.station_lines.proofs.tell_faults.Goals as goal

-- nothing was put where the text has no byte
nothing : (k n : ℕ) → n ≡ min (0 + k) most → n ≡ 0 → true ≡ eqb k 0
nothing k n e h = let z : k ≡ 0 = omega (arith, e, h) in sym (eq-eqb k 0 z)

something : (k n : ℕ) → n ≡ min (0 + k) most → (n ≡ 0 → ⊥) → false ≡ eqb k 0
something k n e h = sym (ne_eqb k 0 (λ z. h (omega (arith, e, z))))

pub returns-then-n-eq0 : goal.returns-then-n-eq0
returns-then-n-eq0 c = nothing _ _ c.put_faults-n.ensures.counted c.if-n-eq0.true

pub returns-then-n-le128 : goal.returns-then-n-le128
returns-then-n-le128 c = something _ _ c.put_faults-n.ensures.counted c.if-n-eq0.false

pub returns-else-n-le128 : goal.returns-else-n-le128
returns-else-n-le128 c = something _ _ c.put_faults-n.ensures.counted c.if-n-eq0.false
