use mathlib.Core.Path.{sym, ap}
use Rattle.opening.specs.Opening.{dated}
use Rattle.opening.proofs.Inside.{epoch_given}
use Rattle.profile.specs.Opening.{narrow, narrowed}
use Rattle.profile.proofs.opener.dated.Goals as goal

pub started-requires : goal.started-requires
started-requires c = epoch_given _ _ _ _ c.requires c.in-Some.is

pub returns-in-Some : goal.returns-in-Some
unfolding dated
returns-in-Some c =
    let r = c.args.r in
    rw (c.started.ensures, c.elements_of.ensures) (sym (ap (λ x. narrowed r (dated r x)) c.in-Some.is))

pub returns-in-None : goal.returns-in-None
unfolding dated narrow
returns-in-None c = let r = c.args.r in sym (ap (λ x. narrowed r (dated r x)) c.in-None.is)
