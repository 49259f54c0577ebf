-- What is known of a step. No contract says what a read brings; but the line that it brings is taken, and where it brings
-- none the text ends.
use Rattle.std.specs.Prelude.{ℕ, ◌≡◌, List, Bool, true, false}
use Rattle.line_input.specs.Lines.{Nexts}
use Rattle.line_input.specs.declared.Input.{Input}
use Rattle.line_input.specs.declared.Next.{Next}
use Rattle.pair_steps.specs.Steps.{TakesNext, Ends}
use Rattle.pair_steps.specs.declared.Pairs.{Pairs}
use Rattle.pair_input.specs.declared.Stepped.{Stepped}

pub record Reads (failed : Bool) (input : Input) (p : Pairs) (buffer line1 line out : List ℕ) (failed' : Bool) (buffer' line1' line' out' : List ℕ) (r : Stepped) : Type 0 where
  pub next : Next
  pub reads : Nexts failed input buffer line failed' buffer' line' next
  pub left : r.input ≡ next.input
  pub takes : next.found ≡ true → TakesNext p next.size line1 line' out line1' out' r.step
  pub ends : next.found ≡ false → (line1' ≡ line1) × Ends p line1 out out' r.step
