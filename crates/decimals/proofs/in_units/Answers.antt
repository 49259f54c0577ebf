use mathlib.Core.Path.{◌≡◌, sym, ap, ◌∙◌}
use Prim.Native.Nat.{ℕ, ◌+◌, ◌*◌, ◌/◌, ◌%◌, ◌≤◌}
use native.Mathlib.Nat.{add-mul, add_assoc, div-le_self, div-add-mod', mod-lt}
use native.Mathlib.Omega.{arith}
use borrow.Author.Rules.{rules}
use Rattle.decimals.proofs.Parts.{gathered}
use Rattle.decimals.proofs.in_units.Goals as goal

pub overflow_add-result : goal.overflow_add-result
overflow_add-result c =
    let d = div-le_self c.nearest_part-n.result c.args.ten in
    omega (arith, d, c.nearest_part-n.ensures.upper_bound, c.taken_apart-s.ensures.few)

regroup : (w n ten : ℕ) → (w + n / ten) * ten + n % ten ≡ w * ten + n
regroup w n ten =
    ap (λ (z : ℕ). z + n % ten) (add-mul w (n / ten) ten) ∙ add_assoc (w * ten) (n / ten * ten) (n % ten) ∙ ap (λ (z : ℕ). w * ten + z) (div-add-mod' n ten)

pub returns : goal.returns
returns c =
    let s = c in
    let a = c.taken_apart-s.result in
    record {
      sum =
          regroup a.whole c.nearest_part-n.result s.args.ten ∙ ap (λ (z : ℕ). a.whole * s.args.ten + z) c.nearest_part-n.ensures.value
          ∙ sym (gathered s.args.m s.args.e s.args.ten a.whole a.part a.down c.taken_apart-s.ensures s.requires.3);
      below = mod-lt c.nearest_part-n.result s.requires.4;
    }
