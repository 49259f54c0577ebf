use mathlib.Core.Path.{ap, sym, ◌∙◌}
use Rattle.std.specs.Prelude.{Option, ℕ}
use Rattle.request_line.specs.Request.{one_of}
use Rattle.request_line.proofs.as_one.Goals as goal

pub returns-in-Some : goal.returns-in-Some
returns-in-Some c =
    let s = c in
    c.single.ensures ∙ sym (ap (λ (x : Option ℕ). one_of x s.args.room) c.in-Some.is)

pub returns-in-None : goal.returns-in-None
returns-in-None c = sym (ap (λ (x : Option ℕ). one_of x c.args.room) c.in-None.is)
