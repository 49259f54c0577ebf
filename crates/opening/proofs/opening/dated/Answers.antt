use mathlib.Core.Path.{sym, ap}
use Rattle.opening.specs.Opening.{dated}
use Rattle.opening.proofs.Inside.{epoch_given}
use Rattle.opening.proofs.opening.dated.Goals as goal

pub started-requires : goal.started-requires
started-requires c = epoch_given _ _ _ _ c.requires c.in-Some.is

pub returns-in-Some : goal.returns-in-Some
unfolding dated
returns-in-Some c =
    rw (c.started.ensures, c.elements_of.ensures) (sym (ap (λ x. dated c.args.r x) c.in-Some.is))

pub returns-in-None : goal.returns-in-None
unfolding dated
returns-in-None c = sym (ap (λ x. dated c.args.r x) c.in-None.is)
