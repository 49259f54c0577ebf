use mathlib.Core.Path.{◌≡◌, ap, ◌∙◌}
use Prim.Native.Nat.{ℕ, ◌*◌, ◌%◌, ◌^◌, ◌≤◌}
use native.Mathlib.Omega.{arith}
use native.Mathlib.Nat.{mod-lt, zero-lt-suc}
use borrow.Author.Rules.{rules}
use Rattle.cube_root.specs.Cube.{near_cube}
use Rattle.floats.proofs.Patterns.{H}
use Rattle.cube_root.proofs.CubeLaws.{scaled, Shifted, shifted, near_range}
use Rattle.cube_root.proofs.packed.Tie as tie
use Rattle.cube_root.proofs.packed.Lts as lts
use Rattle.cube_root.proofs.packed.Reads as reads
use Rattle.cube_root.proofs.packed.Goals as goal

abbrev moved : (lts.Start tie.the-claims reads.Pre reads.Post tie.handed_clauses) → ℕ
moved c = c.args.m * 2 ^ (c.args.e % 3)

inside : (c : (lts.Start tie.the-claims reads.Pre reads.Post tie.handed_clauses)) → Shifted c.args.m (c.args.e % 3)
inside c = shifted c.args.m (c.args.e % 3) c.requires.0 c.requires.1 (mod-lt c.args.e (zero-lt-suc 2))

-- the root, and its range
root : (c : (lts.After-verified tie.the-claims reads.Pre reads.Post tie.handed_clauses)) → c.verified-q.result ≡ near_cube (scaled (moved c.before.before))
root c = c.verified-q.ensures ∙ ap (λ (a : ℕ). near_cube (scaled a)) (inside c.before.before).kept

range : (c : (lts.Start tie.the-claims reads.Pre reads.Post tie.handed_clauses)) → (H ≤ near_cube (scaled (moved c))) × (near_cube (scaled (moved c)) ≤ 9007199254740992)
range c = near_range (moved c) (inside c).long (inside c).short

pub verified-q-requires : goal.verified-q-requires
verified-q-requires c = let z = inside c.before in (omega arith, omega arith, c.candidate-c.ensures.0, c.candidate-c.ensures.1)

pub overflow_add-result-2 : goal.overflow_add-result-2
overflow_add-result-2 c = let r = range c.before.before in let e = root c in omega arith

pub returns : goal.returns
returns c = let r = range c.before.before in let e = root c in record { value = omega arith; upper_bound = omega arith }
