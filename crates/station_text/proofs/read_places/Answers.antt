use mathlib.Core.Path.{sym, ap, ◌∙◌}
use mathlib.Core.List.{List}
use Prim.Native.Nat.{ℕ}
use Rattle.station_text.specs.Words.{digits_on}
use Rattle.station_text.proofs.read_places.Goals as goal

pub returns-then-w : goal.returns-then-w
returns-then-w c =
    simp (sym c.digits_on-w.ensures.0, c.if-w.true)
    (c.digits_on.ensures.0 ∙ ap (λ (t : List ℕ). digits_on c.digits_on-w.result.value t) c.put_bytes.ensures.stored)

pub returns : goal.returns
returns c = simp (sym c.digits_on-w.ensures.0, c.if-w.false)
