use mathlib.Core.Path.{sym, ap, ◌∙◌}
use Rattle.std.specs.Prelude.{Option, ℕ}
use Rattle.award_text.specs.Text.{after}
use Rattle.award_text.proofs.after_line.Goals as goal

pub returns-in-Some : goal.returns-in-Some
returns-in-Some c =
    let a = c.args in c.place.ensures ∙ sym (ap (λ (x : Option ℕ). after a.d a.kind x a.room) c.in-Some.is)

pub returns-in-None : goal.returns-in-None
returns-in-None c =
    let a = c.args in c.bad.ensures ∙ sym (ap (λ (x : Option ℕ). after a.d a.kind x a.room) c.in-None.is)
