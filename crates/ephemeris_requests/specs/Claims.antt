-- What is claimed of the definitions themselves. proofs/Theorems proves each. Definitions only.
use Rattle.std.specs.Prelude.{◌≡◌, ℕ, ◌*◌, ◌<◌, List, pos, ◌+ℤ◌}
use Rattle.request_line.specs.Times.{signed}
use Rattle.ephemeris_requests.specs.declared.Grid.{Grid}
use Rattle.ephemeris_requests.specs.declared.Ask.TheVariants as ask
use Rattle.ephemeris_requests.specs.Requests.{grid_of, time_at}

-- Of a grid that a line asks for, row i is at START + i * STEP.
abbrev pub GridTimes : Type 0
GridTimes = (s : List ℕ) (g : Grid) (i : ℕ) → grid_of s ≡ ask.Steps g → i < g.count → time_at g i ≡ signed g.minus g.start +ℤ pos (i * g.step)
