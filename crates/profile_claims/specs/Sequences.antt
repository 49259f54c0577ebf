-- Whole sequences of the profile's calls on lent memory: demand 3 as it reads for the profile. Definitions only. The theorem is `sequences` of
-- proofs/Sequences.
use Rattle.std.specs.Prelude.{ℕ, ◌≡◌, Bool, false, cond, List, [], ◌∷◌, map, ltb, ℤ, length, Float, Ok}
use Rattle.tle.specs.declared.Record.{Record}
use Rattle.tle.specs.Read.{read_of}
use Rattle.opening.specs.declared.opening.Satellite.{Satellite}
use Rattle.opening.specs.Opening as O
use Rattle.requests.specs.Lists.{list_refusal, list_times, refusals_of, states_of, rounds_of, over}
use Rattle.lent_requests.specs.Requests.{row_put}
use Rattle.profile.specs.Request.{beyond, answered}
use Rattle.answers.specs.Answer.{answer}
use Rattle.saddlekerf_profile.specs.Opening.{open_answer, open_numbers, open_marks}
use Rattle.saddlekerf_profile.specs.Requests.{RequestPost, ListPost}

-- the memory of a satellite
pub record Memory : Type 0 where
  pub numbers : List Float
  pub marks : List ℕ

-- what `saddlekerf_profile_open` leaves of the memory m
abbrev pub opened_in : List ℕ → List ℕ → Memory → Memory
opened_in line1 line2 m =
    let o = read_of line1 line2 in
    record { numbers = open_numbers o m.numbers m.marks; marks = open_marks o m.numbers m.marks }

-- A call of `saddlekerf_profile_request` or `saddlekerf_profile_request_list`: the time or times and the rooms that are lent, the answer, and the rooms
-- afterwards
pub data Call : Type 0 where
  One : ℤ → List Float → ℕ → List Float → Call
  Many : List ℤ → List ℕ → List Float → List ℕ → ℕ → List ℕ → List Float → List ℕ → Call

-- its contract, from the memory m to n
abbrev pub Does : Memory → Call → Memory → Type 0
Does m (One t state r state') n = RequestPost m.numbers m.marks t state r n.numbers n.marks state'
Does m (Many ts a b c r a' b' c') n = ListPost m.numbers m.marks ts a b c r n.numbers n.marks a' b' c'

-- calls one after the other, each on the memory that the last one left
abbrev pub Calls : Memory → List Call → Memory → Type 0
Calls m [] last = m ≡ last
Calls m (c ∷ cs) last = (n : Memory) × Does m c n × Calls n cs last

-- What a call tells, whatever calls went before: the rows of the satellite s newly opened and asked only those times, and no strides
abbrev pub Tells : Satellite → Call → Type 0
Tells s (One t state r state') =
    let row = (answered s t).row in
    let short = ltb (length state) 6 in
    (r ≡ cond short (answer 17 0 0 0) (answer row.refusal row.rounds 0 0)) × (state' ≡ cond short state (row_put row state))
Tells s (Many ts a b c r a' b' c') =
    let rows = map (λ t. (answered s t).row) (list_times ts (length a) (length b) (length c)) in
    (r ≡ answer (list_refusal (length ts) (length a) (length b) (length c)) 0 0 0)
    × ((a' ≡ over (refusals_of rows) a) × ((b' ≡ over (states_of rows) b) × (c' ≡ over (rounds_of rows) c)))

abbrev pub Told : Satellite → List Call → Type 0
Told s [] = Unit {0}
Told s (c ∷ cs) = Tells s c × Told s cs

-- Of two lines that opened into memory, and any calls on that memory:
--   opens   the full program opens the lines' record to the same satellite, which is not deep space: so each of its rows is the full program's (`same_answer`
--           of crate profile)
--   told    every call's answer and rooms are those of that satellite newly opened and asked only those times; strides are 0
--   kept    the memory is what opening left
pub record Sequence (line1 line2 : List ℕ) (opened : Memory) (cs : List Call) (last : Memory) : Type 0 where
  pub source : Record
  pub satellite : Satellite
  pub reads : read_of line1 line2 ≡ Ok source
  pub opens : O.open_of source ≡ Ok satellite
  pub near : beyond satellite ≡ false
  pub told : Told satellite cs
  pub kept : last ≡ opened

-- wherever `saddlekerf_profile_open` answered 0
abbrev pub Sequences : Type 0
Sequences =
    (line1 line2 : List ℕ) (m : Memory) (cs : List Call) (last : Memory) → open_answer (read_of line1 line2) (length m.numbers) (length m.marks) ≡ 0
    → Calls (opened_in line1 line2 m) cs last → Sequence line1 line2 (opened_in line1 line2 m) cs last
