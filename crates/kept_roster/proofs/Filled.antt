-- A roster with the row that was filled for it is the roster of its bytes alone.
use Prim.Native.Nat.{ℕ}
use mathlib.Core.Path.{◌≡◌, refl, sym, ap, ◌∙◌}
use mathlib.Core.List.{List}
use mathlib.Core.Option.{Option, none, some}
use lib.ListN.{length}
use Rattle.tle.specs.declared.Record.{Record}
use Rattle.roster.specs.Roster.{roster_of}
use Rattle.roster.specs.Row.{agreed, roster_with}
use Rattle.roster_calls.specs.Calls.{filled_row}
use Rattle.roster_calls.proofs.Kept.{filling_keeps}

filled_by_lem : (b row : List ℕ) (o : Option (List Record)) → roster_of b ≡ o → length row ≡ 64 → roster_with b (filled_row b row) ≡ roster_of b
unfolding roster_with
filled_by_lem b row none e h = ap (λ o. agreed (filled_row b row) o) e ∙ sym e
filled_by_lem b row (some rs) e h = (filling_keeps b row rs e h).1 ∙ sym e

pub filled : (b row : List ℕ) → length row ≡ 64 → roster_with b (filled_row b row) ≡ roster_of b
filled b row h = filled_by_lem b row (roster_of b) refl h
