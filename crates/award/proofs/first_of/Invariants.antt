use Rattle.std.proofs.Common.{◌≡◌, ◌<◌, ℕ, Bool}
use Rattle.award.specs.Plan.{first}
use Rattle.award.proofs.first_of.Given as goal

abbrev pub invariant-loop-k : goal.invariant-loop-k
invariant-loop-k g l = (fault : ℕ → Bool) → ((k : ℕ) (b : Bool) → k < l.n → goal.F-post g l.fault k b → b ≡ fault k) → first fault l.k ≡ l.k
