use mathlib.Core.Path.{subst}
use native.Mathlib.Omega.{arith}
use Rattle.std.specs.Prelude.{Err}
use Rattle.award.specs.declared.AwardRefusal.{AwardRefusal}
use Rattle.lent_award.specs.Answer.{PlaceFits}
use Rattle.lent_award.proofs.refused.Goals as goal

pub overflow_cast-k : goal.overflow_cast-k
overflow_cast-k c = let h = subst (λ (w : AwardRefusal). PlaceFits (Err w)) c.in-Unsound.is c.requires in omega (arith, h)

pub overflow_cast-i : goal.overflow_cast-i
overflow_cast-i c = let h = subst (λ (w : AwardRefusal). PlaceFits (Err w)) c.in-NoSuchOffer.is c.requires in omega (arith, h)

pub overflow_cast-i-in-NamedTwice : goal.overflow_cast-i-in-NamedTwice
overflow_cast-i-in-NamedTwice c = let h = subst (λ (w : AwardRefusal). PlaceFits (Err w)) c.in-NamedTwice.is c.requires in omega (arith, h)

pub overflow_cast-i-in-Clash : goal.overflow_cast-i-in-Clash
overflow_cast-i-in-Clash c = let h = subst (λ (w : AwardRefusal). PlaceFits (Err w)) c.in-Clash.is c.requires in omega (arith, h)
