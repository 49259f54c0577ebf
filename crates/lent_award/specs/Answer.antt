-- An award plan in memory that is lent, checked: the one number that C and Rust get.
use Rattle.std.specs.Prelude.{ℕ, ◌<◌, Err, Ok, Result}
use Rattle.award.specs.declared.AwardRefusal.{AwardRefusal}
use Rattle.award.specs.declared.AwardRefusal.TheVariants as answer
use Rattle.award.specs.Plan.{most}
use Rattle.answers.specs.Answer.{answer}

-- 18; 27 with the offer; 28 to 30 with the entry; 31
unfoldable pub award_answer : Result (Unit {0}) AwardRefusal → ℕ
award_answer (Ok tt) = answer 0 0 0 0
award_answer (Err answer.TooMany) = answer 18 0 0 0
award_answer (Err (answer.Unsound k)) = answer 27 0 k 0
award_answer (Err (answer.NoSuchOffer i)) = answer 28 0 i 0
award_answer (Err (answer.NamedTwice i)) = answer 29 0 i 0
award_answer (Err (answer.Clash i)) = answer 30 0 i 0
award_answer (Err answer.WrongTotal) = answer 31 0 0 0

-- the place fits its bits: `place_fits` of proofs/Fits has it of every answer that checking gives
abbrev pub PlaceFits : Result (Unit {0}) AwardRefusal → Type 0
PlaceFits (Ok tt) = Unit {0}
PlaceFits (Err answer.TooMany) = Unit {0}
PlaceFits (Err (answer.Unsound k)) = k < most
PlaceFits (Err (answer.NoSuchOffer i)) = i < most
PlaceFits (Err (answer.NamedTwice i)) = i < most
PlaceFits (Err (answer.Clash i)) = i < most
PlaceFits (Err answer.WrongTotal) = Unit {0}
