-- Document 02, wish 2: "packed from the front, zeros after". How lent memory holds a list of records: w numbers a record, in k places.
use Rattle.std.specs.Prelude.{ℕ, ◌-◌, ◌*◌, length, replicate}
use mathlib.Core.List.{List, ◌++◌, flat_map}
use Rattle.tle.specs.declared.Record.{Record}

unfoldable pub packed : (Record → List ℕ) → ℕ → ℕ → List Record → List ℕ
packed f w k rs = flat_map f rs ++ replicate ((k - length rs) * w) 0
