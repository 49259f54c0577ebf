use mathlib.Core.Path.{ap, sym, ◌∙◌}
use Rattle.std.specs.Prelude.{Option, ℕ}
use Rattle.request_line.specs.Request.{list_of}
use Rattle.request_line.proofs.as_list.Goals as goal

pub returns-in-Some : goal.returns-in-Some
returns-in-Some c =
    let s = c in
    c.several.ensures ∙ sym (ap (λ (x : Option ℕ). list_of x s.args.room) c.in-Some.is)

pub returns-in-None : goal.returns-in-None
returns-in-None c = sym (ap (λ (x : Option ℕ). list_of x c.args.room) c.in-None.is)
