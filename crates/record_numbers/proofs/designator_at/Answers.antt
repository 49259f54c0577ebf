use Prim.Native.Nat.{ℕ}
use mathlib.Core.Path.{◌≡◌, ◌∙◌}
use Rattle.record_numbers.specs.Numbers.{designator_from, designator_at}
use Rattle.record_numbers.proofs.designator_at.Goals as goal

four : {n n' a a' b b' c c' : ℕ} → n ≡ n' → a ≡ a' → b ≡ b' → c ≡ c' → designator_from n a b c ≡ designator_from n' a' b' c'
four p q r s = λ i. designator_from (p i) (q i) (r i) (s i)

pub returns : goal.returns
unfolding designator_at
returns c =
    c.designator_from.ensures ∙ four c.whole_at-launch.ensures c.byte_at-a.ensures c.byte_at-b.ensures c.byte_at-c.ensures
