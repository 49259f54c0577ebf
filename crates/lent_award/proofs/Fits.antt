-- A place fits its bits.
use Prim.Native.Nat.{ℕ, ◌<◌, ◌≤◌}
use mathlib.Core.Path.{◌≡◌, sym}
use mathlib.Core.List.{List}
use native.Mathlib.Omega.{arith}
use Rattle.std.specs.Prelude.{Err, Ok, Result}
use Rattle.award.specs.declared.AwardRefusal.{AwardRefusal}
use Rattle.award.specs.declared.AwardRefusal.TheVariants as answer
use Rattle.award.specs.Plan.{most, answer_of}
use Rattle.award.proofs.Refused.{refusals}
use Rattle.lent_award.specs.Answer.{PlaceFits}

within : {k n : ℕ} → k < n → n ≤ most → k < most
within h g = omega arith

pub place_fits : (offers entries : List ℕ) (total w : ℕ) (x : Result (Unit {0}) AwardRefusal) → x ≡ answer_of offers entries total w → PlaceFits x
place_fits offers entries total w (Ok tt) e = tt
place_fits offers entries total w (Err answer.TooMany) e = tt
place_fits offers entries total w (Err (answer.Unsound k)) e = let r = (refusals offers entries total w).is_27 k (sym e) in within r.1.inside r.0.0
place_fits offers entries total w (Err (answer.NoSuchOffer i)) e = let r = (refusals offers entries total w).is_28 i (sym e) in within r.2.inside r.0.1
place_fits offers entries total w (Err (answer.NamedTwice i)) e = let r = (refusals offers entries total w).is_29 i (sym e) in within r.3.inside r.0.1
place_fits offers entries total w (Err (answer.Clash i)) e = let r = (refusals offers entries total w).is_30 i (sym e) in within r.4.inside r.0.1
place_fits offers entries total w (Err answer.WrongTotal) e = tt
