-- Whole sequences of calls on lent memory: demand 3 (specs/Demand3 of `sequences`) of what the calls answer and leave. Definitions only.
-- The theorem is `sequences` of proofs/Sequences.
use Rattle.std.specs.Prelude.{ℕ, ◌≡◌, cond, List, [], ◌∷◌, ◌++◌, map, ltb, ℤ, length, Float, Ok}
use Rattle.opening.specs.declared.opening.Satellite.{Satellite}
use Rattle.opening.specs.Opening.{open_pair_of}
use Rattle.resonance.specs.declared.place.Side.{Side}
use Rattle.resonance.specs.Time.{whole_strides}
use Rattle.sgp4.specs.Sgp4.{integrator_of}
use Rattle.requests.specs.Lists.{list_refusal, list_times, refusals_of, states_of, rounds_of, over}
use Rattle.windows.specs.Windows as W
use Rattle.windows.specs.Answer.{call_of}
use Rattle.sequences.specs.Demand3 as D
use Rattle.storage.specs.Storage.{satellite_of}
use Rattle.answers.specs.Answer.{answer}
use Rattle.lent_opening.specs.Opening.{open_answer, open_numbers, open_marks}
use Rattle.lent_requests.specs.Requests.{row_put, RequestPost, ListPost}
use Rattle.lent_windows.specs.Windows.{station_of, WindowsPost}

-- the memory of a satellite
pub record Memory : Type 0 where
  pub numbers : List Float
  pub marks : List ℕ

-- what `saddlekerf_open` leaves of the memory m
abbrev pub opened_in : List ℕ → List ℕ → Memory → Memory
opened_in line1 line2 m =
    let o = open_pair_of line1 line2 in
    record { numbers = open_numbers o m.numbers m.marks; marks = open_marks o m.numbers m.marks }

-- A call of `saddlekerf_request`, `saddlekerf_request_list` or `saddlekerf_windows`: the time or times, or the station, start, step and number of samples, and
-- the rooms that are lent, the answer, and the rooms afterwards
pub data Call : Type 0 where
  One : ℤ → List Float → ℕ → List Float → Call
  Many : List ℤ → List ℕ → List Float → List ℕ → ℕ → List ℕ → List Float → List ℕ → Call
  Windows : List Float → ℕ → ℕ → ℕ → List ℕ → List ℕ → ℕ → List ℕ → List ℕ → Call

-- the call for windows that lent memory asks for
abbrev pub asked : List Float → ℕ → ℕ → ℕ → List ℕ → List ℕ → W.Call
asked p start step samples a b = call_of (station_of p) start step samples (length a) (length b)

-- its contract, from the memory m to n
abbrev pub Does : Memory → Call → Memory → Type 0
Does m (One t state r state') n = RequestPost m.numbers m.marks t state r n.numbers n.marks state'
Does m (Many ts a b c r a' b' c') n = ListPost m.numbers m.marks ts a b c r n.numbers n.marks a' b' c'
Does m (Windows p start step samples a b r a' b') n = WindowsPost m.numbers m.marks p start step samples a b r n.numbers n.marks a' b'

-- calls one after the other, each on the memory that the last one left
abbrev pub Calls : Memory → List Call → Memory → Type 0
Calls m [] last = m ≡ last
Calls m (c ∷ cs) last = (n : Memory) × Does m c n × Calls n cs last

-- the times of a call's rows, since the epoch e; none where a room is too short, the list too long or the call for windows refused, and none of a sample
-- outside the calendar
abbrev pub call_times : ℕ → Call → List ℤ
call_times e (One t state r state') = cond (ltb (length state) 6) [] (t ∷ [])
call_times e (Many ts a b c r a' b' c') = list_times ts (length a) (length b) (length c)
call_times e (Windows p start step samples a b r a' b') = W.times_of e (W.instants_of (asked p start step samples a b))

abbrev pub times_of : ℕ → List Call → List ℤ
times_of e [] = []
times_of e (c ∷ cs) = call_times e c ++ times_of e cs

-- ── what the calls tell: s is the satellite newly opened, l the last time in range before the call ──

-- the rows are those of s asked only those times, and the windows those of such rows; the strides are demand 3's count of those times
abbrev pub Tells : Satellite → D.Last → Call → Type 0
Tells s l (One t state r state') =
    let row = D.row_alone s t in
    let short = ltb (length state) 6 in
    (r ≡ cond short (answer 17 0 0 0) (answer row.refusal row.rounds 0 (D.counts_of (integrator_of s.model) l (t ∷ []))))
    × (state' ≡ cond short state (row_put row state))
Tells s l (Many ts a b c r a' b' c') =
    let us = list_times ts (length a) (length b) (length c) in
    let rows = map (D.row_alone s) us in
    (r ≡ answer (list_refusal (length ts) (length a) (length b) (length c)) 0 0 (D.counts_of (integrator_of s.model) l us))
    × ((a' ≡ over (refusals_of rows) a) × ((b' ≡ over (states_of rows) b) × (c' ≡ over (rounds_of rows) c)))
Tells s l (Windows p start step samples a b r a' b') =
    let c = asked p start step samples a b in
    let us = W.times_of (D.epoch s) (W.instants_of c) in
    let ws = W.windows_of c (map (D.row_alone s) us) in
    (r ≡ answer (W.call_refusal c) 0 (length ws) (D.counts_of (integrator_of s.model) l us))
    × ((a' ≡ over (map (λ w. w.first) ws) a) × (b' ≡ over (map (λ w. w.last) ws) b))

abbrev pub Told : Satellite → D.Last → List Call → Type 0
Told s l [] = Unit {0}
Told s l (c ∷ cs) = Tells s l c × Told s (D.lasts_of l (call_times (D.epoch s) c)) cs

-- for each call, the strides that it tells
abbrev pub told_strides : Satellite → D.Last → List Call → List ℕ
told_strides s l [] = []
told_strides s l (c ∷ cs) = D.counts_of (integrator_of s.model) l (call_times (D.epoch s) c) ∷ told_strides s (D.lasts_of l (call_times (D.epoch s) c)) cs

-- for each call, the strides of opening anew for each of its times in range
abbrev pub alone_strides : Satellite → List Call → List ℕ
alone_strides s cs = map (λ c. D.sum (map (D.strides_alone s) (D.ranged (call_times (D.epoch s) c)))) cs

-- ── the claim ──

-- Of two lines that opened into memory, and any calls on that memory:
--   opens     the lines open to a satellite
--   told      every call's answer and rooms are those of that satellite newly opened and asked only those times, windows those of such rows, its strides
--             demand 3's count
--   outward   where the times in range are one-sided and outward, the strides told are together the whole strides to the farthest
--   no_more    no call tells more strides than opening anew for each of its times in range would
--   kept      of the satellite in memory nothing but the saved position has changed
pub record Sequence (line1 line2 : List ℕ) (cs : List Call) (last : Memory) : Type 0 where
  pub satellite : Satellite
  pub opens : open_pair_of line1 line2 ≡ Ok satellite
  pub told : Told satellite D.none cs
  pub outward : (d : Side) → D.Outward d 0 (D.ranged (times_of (D.epoch satellite) cs)) → D.sum (told_strides satellite D.none cs) ≡ whole_strides (integrator_of satellite.model) (D.farthest (D.ranged (times_of (D.epoch satellite) cs)))
  pub no_more : D.NoMore (told_strides satellite D.none cs) (alone_strides satellite cs)
  pub kept : (satellite_of last.numbers last.marks).model ≡ satellite.model

-- wherever `saddlekerf_open` answered 0
abbrev pub Sequences : Type 0
Sequences =
    (line1 line2 : List ℕ) (m : Memory) (cs : List Call) (last : Memory) → open_answer (open_pair_of line1 line2) (length m.numbers) (length m.marks) ≡ 0
    → Calls (opened_in line1 line2 m) cs last → Sequence line1 line2 cs last
