use Rattle.finite_angle.proofs.Angle.{finite_angle}
use Rattle.profile.specs.Opening.{near_checked}
use Rattle.profile.proofs.opener.checked.Goals as goal

pub returns-then-finite_near : goal.returns-then-finite_near
unfolding near_checked
returns-then-finite_near c = simp (← c.finite_near.ensures, finite_angle _ c.requires, c.if-finite_near.true)

pub returns : goal.returns
unfolding near_checked
returns c = simp (← c.finite_near.ensures, c.if-finite_near.false)
