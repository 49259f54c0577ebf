-- Document 01's refusal numbers of a time in range. Definitions only.
use Rattle.std.specs.Prelude.{ℕ}
use Rattle.state.specs.declared.answer.Refusal.{Refusal}
use Rattle.state.specs.declared.answer.Refusal.TheVariants.{MeanMotion, MeanElements, Eccentricity, SemiLatusRectum, Decayed, NotFinite}

unfoldable pub number : Refusal → ℕ
number MeanMotion = 10
number MeanElements = 11
number Eccentricity = 12
number SemiLatusRectum = 13
number Decayed = 14
number NotFinite = 15
