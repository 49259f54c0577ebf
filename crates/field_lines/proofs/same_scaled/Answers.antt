use native.Mathlib.Omega.{arith}
use Rattle.field_lines.proofs.Pieces.{scaled_same, scaled_other}
use Rattle.field_lines.proofs.same_scaled.Goals as goal

pub returns-then-first-second : goal.returns-then-first-second
returns-then-first-second c =
    let a = c.args in
    scaled_same a.first a.second (record { sfits = omega (arith, c.struct_told-1.given) }) (record { sfits = omega (arith, c.struct_told-2-1.given) })
    (record { sfits = omega (arith, c.struct_told-then-first-second-1.given) }) (record { sfits = omega (arith, c.struct_told-then-first-second-2-1.given) }) c.if-first-second.true

pub returns : goal.returns
returns c =
    let a = c.args in
    scaled_other a.first a.second (record { sfits = omega (arith, c.struct_told-1.given) }) (record { sfits = omega (arith, c.struct_told-2-1.given) }) c.if-first-second.false
