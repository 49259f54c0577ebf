-- An answer as a line of text: `accepted`, or `refused` with document 02's number and the offer or the entry at fault. Definitions only.
use Rattle.std.specs.Prelude.{ℕ, List, [], ◌∷◌, ◌++◌, Err, Ok, Result}
use Rattle.text.specs.Output.{bytes, decimal}
use Rattle.award.specs.declared.AwardRefusal.{AwardRefusal}
use Rattle.award.specs.declared.AwardRefusal.TheVariants as answer

unfoldable pub refusal_text : ℕ → List ℕ
refusal_text number = bytes "refused " ++ (decimal number ++ (10 ∷ []))

unfoldable pub refusal_at_text : ℕ → ℕ → List ℕ
refusal_at_text number place = bytes "refused " ++ (decimal number ++ ((32 ∷ []) ++ (decimal place ++ (10 ∷ []))))

unfoldable pub answer_text : Result (Unit {0}) AwardRefusal → List ℕ
answer_text (Ok tt) = bytes "accepted\n"
answer_text (Err answer.TooMany) = refusal_text 18
answer_text (Err (answer.Unsound k)) = refusal_at_text 27 k
answer_text (Err (answer.NoSuchOffer i)) = refusal_at_text 28 i
answer_text (Err (answer.NamedTwice i)) = refusal_at_text 29 i
answer_text (Err (answer.Clash i)) = refusal_at_text 30 i
answer_text (Err answer.WrongTotal) = refusal_text 31
