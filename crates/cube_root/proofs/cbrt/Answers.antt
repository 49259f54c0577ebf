use mathlib.Core.Path.{◌≡◌, sym, ◌∙◌, subst}
use mathlib.Core.Bool.{true}
use native.Mathlib.Omega.{arith}
use lib.Dec.{T}
use lib.Ieee.{binary64, fits, of_bits, div}
use borrow.Author.Rules.{rules}
use Rattle.cube_root.specs.Cube.{normal, cbrt_of}
use Rattle.floats.proofs.Branch.{no_by}
use Rattle.floats.proofs.Patterns.{below_is_number}
use Rattle.cube_root.proofs.CubePatterns.{no_nan, parts, packed_is}
use Rattle.cube_root.proofs.cbrt.Tie as tie
use Rattle.cube_root.proofs.cbrt.Lts as lts
use Rattle.cube_root.proofs.cbrt.Reads as reads
use Rattle.cube_root.proofs.cbrt.Goals as goal

-- what owning an f64 tells: the format holds it
held : (c : (lts.Start tie.the-claims reads.Pre reads.Post tie.handed_clauses)) → T (fits binary64 c.args.x)
held c = subst T (sym c.well_formed.0.1) tt

is : (c : (lts.Then1 tie.the-claims reads.Pre reads.Post tie.handed_clauses)) → normal c.args.x ≡ true
is c = sym c.is_normal.ensures ∙ c.if-is_normal.true

pub packed-requires : goal.packed-requires
packed-requires c = parts c.args.x (held c.before.before) (is c)

pub float_from_bits-result : goal.float_from_bits-result
float_from_bits-result c =
    let p = parts c.args.x (held c.before.before.before) (is c.before) in
    let g = c.packed.ensures.upper_bound in
    below_is_number c.packed.result (omega arith)

pub returns-then-is_normal : goal.returns-then-is_normal
returns-then-is_normal c =
    packed_is c.args.x (held c.before.before.before) (is c.before) c.packed.result c.packed.ensures.value

pub returns : goal.returns
unfolding cbrt_of div of_bits
returns c = no_by _ _ c.is_normal.ensures c.if-is_normal.false

pub float_to_bits-b : goal.float_to_bits-b
float_to_bits-b c = no_nan c.args.x (is c)
