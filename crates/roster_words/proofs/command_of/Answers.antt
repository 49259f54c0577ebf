use mathlib.Core.Path.{◌≡◌, refl, sym, ◌∙◌}
use mathlib.Core.Bool.{Bool, true}
use mathlib.Core.List.{List}
use Prim.Native.Nat.{ℕ}
use Rattle.text.specs.Output.{bytes}
use Rattle.roster.specs.Roster.{same}
use Rattle.roster.proofs.Tests.{same_as}
use Rattle.roster_words.specs.Command.{command_of}
use Rattle.roster_words.proofs.command_of.Goals as goal

-- a test of equal bytes, as the definition has it
test : (x y : Bool) (a b : List ℕ) → (x ≡ true → a ≡ b) × (a ≡ b → x ≡ true) → x ≡ y → same a b ≡ y
test x y a b k e = sym (same_as x (same a b) a b refl k.0 k.1) ∙ e

pub returns-then-same : goal.returns-then-same
unfolding command_of
returns-then-same c = simp (test _ _ _ (bytes "lodge") c.same.ensures c.if-same.true)

pub returns-then-same-2 : goal.returns-then-same-2
unfolding command_of
returns-then-same-2 c =
    simp (test _ _ _ (bytes "lodge") c.same.ensures c.if-same.false, test _ _ _ (bytes "withdraw") c.same-2.ensures c.if-same-2.true)

pub returns-then-same-3 : goal.returns-then-same-3
unfolding command_of
returns-then-same-3 c =
    simp (
      test _ _ _ (bytes "lodge") c.same.ensures c.if-same.false,
      test _ _ _ (bytes "withdraw") c.same-2.ensures c.if-same-2.false,
      test _ _ _ (bytes "list") c.same-3.ensures c.if-same-3.true,
    )

pub returns : goal.returns
unfolding command_of
returns c =
    simp (
      test _ _ _ (bytes "lodge") c.same.ensures c.if-same.false,
      test _ _ _ (bytes "withdraw") c.same-2.ensures c.if-same-2.false,
      test _ _ _ (bytes "list") c.same-3.ensures c.if-same-3.false,
    )
