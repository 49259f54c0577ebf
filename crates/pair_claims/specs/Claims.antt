-- Every line of a text is told of, once: in a pair, or by what is said of it. Proved in proofs/Told.antt.
use Rattle.std.specs.Prelude.{ℕ, ◌+◌, ◌<◌, ◌≤◌, min, ◌≡◌, List, [], ◌∷◌, ◌++◌, cond, eqb, length, take}
use Rattle.text.specs.Output.{most}
use Rattle.pair_steps.specs.declared.Pairs.{Pairs}
use Rattle.pair_steps.specs.declared.Fate.{Fate}
use Rattle.pair_steps.specs.declared.Fate.TheVariants.{Waits, Completes, Blank, Alone}
use Rattle.pair_steps.specs.Fate.{waiting, counted, fate_in}
use Rattle.pair_steps.specs.Steps.{started, step_of}

-- a line as it was found: its size, and the room that holds it
pub record Line : Type 0 where
  pub size : ℕ
  pub room : List ℕ

-- the number of the line 1 that waits, which is told of when it is given up
unfoldable pub waiting_number : Pairs → List ℕ
waiting_number p = cond (waiting p) (p.held ∷ []) []

-- the numbers that a step tells of: `given_up`, the two of a pair, `blank_text`, `said_text`
unfoldable pub told_by : Pairs → Fate → List ℕ
told_by p Waits = waiting_number p
told_by p Completes = p.held ∷ p.lines ∷ []
told_by p Blank = p.lines ∷ []
told_by p (Alone why) = p.lines ∷ []

-- the state behind a line: what is said does not matter to it
abbrev pub behind : Pairs → Line → Pairs
behind p l = (step_of p (fate_in p l.size l.room) 0 (min (length (take l.size l.room)) most) 0).pairs

-- the numbers that are told of from a state on, to the end of the text
unfoldable pub told : Pairs → List Line → List ℕ
told p [] = waiting_number p
told p (l ∷ ls) = told_by (counted p) (fate_in (counted p) l.size l.room) ++ told (behind (counted p) l) ls

unfoldable pub times_in : ℕ → List ℕ → ℕ
times_in k [] = 0
times_in k (n ∷ ns) = cond (eqb k n) 1 0 + times_in k ns

-- of a text of n lines the numbers 1 to n are told once
abbrev pub ToldOnce : Type 0
ToldOnce = (ls : List Line) → length ls < most → (k : ℕ) → 1 ≤ k → k ≤ length ls → times_in k (told started ls) ≡ 1

-- and no other
abbrev pub NoOther : Type 0
NoOther = (ls : List Line) → length ls < most → (k : ℕ) → length ls < k → times_in k (told started ls) ≡ 0
