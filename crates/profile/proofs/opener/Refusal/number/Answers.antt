use mathlib.Core.Path.{ap, sym}
use Rattle.profile.specs.Opening.{number}
use Rattle.profile.proofs.opener.Refusal.number.Goals as goal

pub returns-in-Record : goal.returns-in-Record
unfolding number
returns-in-Record c = sym (ap number c.in-Record.is)

pub returns-in-Perigee : goal.returns-in-Perigee
unfolding number
returns-in-Perigee c = sym (ap number c.in-Perigee.is)

pub returns-in-DeepSpace : goal.returns-in-DeepSpace
unfolding number
returns-in-DeepSpace c = sym (ap number c.in-DeepSpace.is)

pub returns-in-NotFinite : goal.returns-in-NotFinite
unfolding number
returns-in-NotFinite c = sym (ap number c.in-NotFinite.is)
