use mathlib.Core.Path.{◌≡◌, sym, ap, ◌∙◌, subst}
use Prim.Native.Nat.{ℕ, ◌+◌, ◌-◌, ◌*◌, ◌^◌}
use native.Mathlib.Omega.{arith}
use lib.Dec.{T}
use lib.Ieee.{binary64, fits}
use borrow.Author.Rules.{rules}
use Rattle.decimals.specs.Fixed.{nearest_whole}
use Rattle.decimals.specs.Parts.{Units}
use Rattle.floats.proofs.Patterns.{H}
use Rattle.decimals.proofs.Patterns.{E, t, no_nan, no_units, field_most, units_in}
use Rattle.decimals.proofs.Spelled.{ten_even, ten_least, ten_most}
use Rattle.decimals.proofs.units_of.Tie as tie
use Rattle.decimals.proofs.units_of.Lts as lts
use Rattle.decimals.proofs.units_of.Reads as reads
use Rattle.decimals.proofs.units_of.Goals as goal

-- what owning an f64 tells: the format holds it
held : (c : (lts.Start tie.the-claims reads.Pre reads.Post)) → T (fits binary64 c.args.x)
held c = subst T (sym c.well_formed.0.1) tt

pub returns-then-e-lt992 : goal.returns-then-e-lt992
returns-then-e-lt992 c =
    let s = c.before in
    let a = s.args in
    let n = no_units a.x (held s) s.requires.0 a.places s.requires.2 c.if-e-lt992.true in
    record {
      sum = omega (arith, n);
      below = omega (arith, ten_least a.places a.ten s.requires.3);
    }

pub in_units-requires : goal.in_units-requires
in_units-requires c =
    let s = c.before in
    let a = s.args in (
      omega arith,
      c.if-e-lt992.false,
      field_most a.x (held s) s.requires.0 c.if-e-lt992.false,
      ten_even a.places a.ten s.requires.1 s.requires.3,
      ten_least a.places a.ten s.requires.3,
      ten_most a.places a.ten s.requires.2 s.requires.3,
    )

pub returns : goal.returns
returns c =
    let s = c.before.before in
    let a = s.args in
    let n = c.in_units.result in
    subst (λ (z : ℕ). Units z a.ten n.whole n.part)
    (ap (λ (z : ℕ). nearest_whole ((t a.x + H) * z) (2 ^ (1075 - E a.x))) s.requires.3 ∙ sym (units_in a.x (held s) s.requires.0 a.places c.if-e-lt992.false))
    c.in_units.ensures

pub float_to_bits-b : goal.float_to_bits-b
float_to_bits-b c = no_nan c.args.x c.requires.0
