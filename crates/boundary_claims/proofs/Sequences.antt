-- What is asked of lent memory is what is asked of the satellite that was opened into it.
use Prim.Native.Nat.{ℕ, ◌+◌, ◌≤◌}
use mathlib.Core.Path.{◌≡◌, refl, sym, ap, ◌∙◌}
use mathlib.Core.Bool.{Bool, true, false, cond, ◌||◌}
use mathlib.Core.List.{List, [], ◌∷◌, ◌++◌, map}
use native.Mathlib.Omega.{arith}
use lib.Dec.{eqb, ltb}
use lib.IntN.{ℤ}
use lib.ListN.{length, length-append, length-drop}
use lib.Ieee.{Float}
use Rattle.tle.specs.declared.Refusal.{Refusal}
use Rattle.tle.specs.declared.Refusal.TheVariants as read
use Rattle.satellite.specs.declared.Integrator.{Integrator}
use Rattle.resonance.specs.declared.place.Place.{Place}
use Rattle.resonance.specs.Time.{whole_strides}
use Rattle.opening.specs.declared.opening.Satellite.{Satellite}
use Rattle.opening.specs.declared.opening.Refusal as O
use Rattle.opening.specs.declared.opening.Refusal.TheVariants as opening
use Rattle.std.specs.Prelude.{Err, Ok, Result}
use Rattle.opening.specs.declared.opening.PairRefusal.{PairRefusal}
use Rattle.opening.specs.declared.opening.PairRefusal.TheVariants as pair
use Rattle.opening.specs.Opening.{number, open_pair_of}
use Rattle.opening.proofs.Made.{made_of}
use Rattle.sgp4.specs.declared.Row.{Row}
use Rattle.sgp4.specs.Sgp4.{integrator_of}
use Rattle.requests.specs.Request.{answered}
use Rattle.requests.specs.Lists.{satellite_from, list_refusal, list_times, rows_from, refusals_of, states_of, rounds_of, over}
use Rattle.windows.specs.Windows as W
use Rattle.windows.specs.Answer.{windows_at}
use Rattle.sequences.specs.Demand3 as D
use Rattle.sequences.proofs.Nine.{nine_or_not}
use Rattle.sequences.proofs.Demand3.{demand_3}
use Rattle.storage.specs.Storage.{too_short, satellite_of, place_numbers, place_marks, store_refusal, stored_numbers, stored_marks, placed_numbers, placed_marks}
use Rattle.storing.proofs.Rooms.{enough, length_numbers, length_marks}
use Rattle.storing.proofs.Kept.{kept, placed}
use Rattle.answers.specs.Answer.{answer}
use Rattle.answers.specs.Refusals.{refusal_answer}
use Rattle.lent_opening.specs.Opening.{open_answer, open_numbers, open_marks}
use Rattle.lent_requests.specs.Requests.{request_short, row_put, kept_numbers, kept_marks, Requested, list_number, Listed}
use Rattle.lent_windows.specs.Windows.{Windowed}
use Rattle.boundary_claims.specs.Sequences.{Memory, opened_in, Call, One, Many, Windows, asked, Does, Calls, call_times, times_of, Tells, Told, told_strides, alone_strides, Sequences}

-- ── the requests behind calls ──

-- the request that a call puts to the satellite; none where the room for a state is too short
abbrev asks : Call → List D.Request
asks (One t state r state') = cond (ltb (length state) 6) [] (D.One t ∷ [])
asks (Many ts a b c r a' b' c') = D.Many ts (length a) (length b) (length c) ∷ []
asks (Windows p start seconds samples a b r a' b') = D.Windows (asked p start seconds samples a b) ∷ []

abbrev requests_of : List Call → List D.Request
requests_of [] = []
requests_of (c ∷ cs) = asks c ++ requests_of cs

-- the satellite that requests give back in the end
abbrev after : Satellite → List D.Request → Satellite
after s [] = s
after s (r ∷ rs) = after (D.outcome s r).satellite rs

-- a call answers what the request gives for the satellite s that lies in memory
abbrev Gives : Satellite → Call → Type 0
Gives s (One t state r state') =
    let x = answered s t in
    let short = ltb (length state) 6 in
    (r ≡ cond short (answer 17 0 0 0) (answer x.row.refusal x.row.rounds 0 x.strides.0)) × (state' ≡ cond short state (row_put x.row state))
Gives s (Many ts a b c r a' b' c') =
    let o = D.outcome s (D.Many ts (length a) (length b) (length c)) in
    (r ≡ answer (list_refusal (length ts) (length a) (length b) (length c)) 0 0 o.strides)
    × ((a' ≡ over (refusals_of o.rows) a) × ((b' ≡ over (states_of o.rows) b) × (c' ≡ over (rounds_of o.rows) c)))
Gives s (Windows p start seconds samples a b r a' b') =
    let c = asked p start seconds samples a b in
    let o = D.outcome s (D.Windows c) in
    (r ≡ answer (W.call_refusal c) 0 (length o.windows) o.strides)
    × ((a' ≡ over (map (λ w. w.first) o.windows) a) × (b' ≡ over (map (λ w. w.last) o.windows) b))

-- every call, the first for s, each later one for what the last request gave back
abbrev Given : Satellite → List Call → Type 0
Given s [] = Unit {0}
Given s (c ∷ cs) = Gives s c × Given (after s (asks c)) cs

absurd : {B : Type 0} → ⊥ → B
absurd = elim [ ]

-- ── memory that holds a satellite ──

record Holds (ns : List Float) (ms : List ℕ) (s : Satellite) : Type 0 where
  numbers : 83 ≤ length ns
  marks : 6 ≤ length ms
  held : satellite_of ns ms ≡ s

room : {ns : List Float} {ms : List ℕ} {s : Satellite} → Holds ns ms s → too_short (length ns) (length ms) ≡ false
room {ns} {ms} h = enough (length ns) (length ms) h.numbers h.marks

stored_holds : (s : Satellite) (ns : List Float) (ms : List ℕ) → too_short (length ns) (length ms) ≡ false → Holds (stored_numbers s ns ms) (stored_marks s ns ms) s
unfolding stored_numbers stored_marks
stored_holds s ns ms e =
    rw e (record {
      numbers = simp length-append (omega (arith, length_numbers s));
      marks = simp length-append (omega (arith, length_marks s));
      held = kept s ns ms;
    })

placed_holds : (p : Place) (ns : List Float) (ms : List ℕ) (s : Satellite) → Holds ns ms s → Holds (placed_numbers p ns ms) (placed_marks p ns ms) (record { model = s.model; place = p })
unfolding placed_numbers placed_marks place_numbers place_marks
placed_holds p ns ms s h =
    rw (room h) (record {
      numbers = simp length-drop (omega (arith, h.numbers));
      marks = simp length-drop (omega (arith, h.marks));
      held = placed p ns ms ∙ ap (λ z. record { model = z.model; place = p }) h.held;
    })

moved : {ns ns' : List Float} {ms ms' : List ℕ} {s s' : Satellite} → ns' ≡ ns → ms' ≡ ms → s ≡ s' → Holds ns ms s → Holds ns' ms' s'
moved {ns} {ns'} {ms} {ms'} {s} {s'} a b c h = rw (a, b, ← c) h

-- ── one time ──

kept_holds : (t : ℤ) (s : Satellite) (ns : List Float) (ms : List ℕ) → Holds ns ms s
    → Holds (kept_numbers (answered s t).row.refusal (answered s t).satellite.place ns ms) (kept_marks (answered s t).row.refusal (answered s t).satellite.place ns ms) (answered s t).satellite
kept_holds t s ns ms h =
    nine_or_not s.model s.place t
    (λ (b : Bool) (p : Place). Holds (cond b ns (placed_numbers p ns ms)) (cond b ms (placed_marks p ns ms)) (record { model = s.model; place = p }))
    h (placed_holds _ ns ms s h)

one_by : (b : Bool) (t : ℤ) (s : Satellite) (ns : List Float) (ms : List ℕ) (state : List Float) (r : ℕ) (ns' : List Float) (ms' : List ℕ) (state' : List Float)
    → Holds ns ms s → Requested (b || false) (answered s t) ns ms state r ns' ms' state' → Holds ns' ms' (after s (cond b [] (D.One t ∷ [])))
one_by true t s ns ms state r ns' ms' state' h p = moved p.numbers p.marks refl h
one_by false t s ns ms state r ns' ms' state' h p = moved p.numbers p.marks refl (kept_holds t s ns ms h)

or_false : (b : Bool) → b || false ≡ b
or_false true = refl
or_false false = refl

-- ── a list ──

model_same : (s : Satellite) (ts : List ℤ) → s.model ≡ (satellite_from s ts).model
model_same s [] = refl
model_same s (t ∷ ts) = model_same (answered s t).satellite ts

many_by : (e : Bool) (ts : List ℤ) (s : Satellite) (ns : List Float) (ms : List ℕ) (ns' : List Float) (ms' : List ℕ) → Holds ns ms s
    → ns' ≡ cond e (placed_numbers (satellite_from s (cond e ts [])).place ns ms) ns → ms' ≡ cond e (placed_marks (satellite_from s (cond e ts [])).place ns ms) ms
    → Holds ns' ms' (satellite_from s (cond e ts []))
many_by true ts s ns ms ns' ms' h a b =
    let p = (satellite_from s ts).place in
    moved a b (ap (λ k. record { model = k; place = p }) (model_same s ts)) (placed_holds p ns ms s h)
many_by false ts s ns ms ns' ms' h a b = moved a b refl h

-- "A list: 18, 17": memory that is long enough adds no refusal
same_number : (b : Bool) (x : ℕ) → cond b 18 (cond false 17 (cond b 18 x)) ≡ cond b 18 x
same_number true x = refl
same_number false x = refl

list_number_lem : (p q n a b c : ℕ) → too_short p q ≡ false → list_number p q n a b c ≡ list_refusal n a b c
unfolding list_number list_refusal
list_number_lem p q n a b c e = rw e (same_number (ltb 1024 n) _)

-- ── windows ──

sights_by : (e : Bool) (x : ℕ) (xs : List ℕ) (s : Satellite) (ns : List Float) (ms : List ℕ) (ns' : List Float) (ms' : List ℕ) → Holds ns ms s
    → ns' ≡ cond e (placed_numbers (satellite_from s (W.times_of x (cond e xs []))).place ns ms) ns → ms' ≡ cond e (placed_marks (satellite_from s (W.times_of x (cond e xs []))).place ns ms) ms
    → Holds ns' ms' (satellite_from s (W.times_of x (cond e xs [])))
sights_by true x xs s ns ms ns' ms' h a b = many_by true (W.times_of x xs) s ns ms ns' ms' h a b
sights_by false x xs s ns ms ns' ms' h a b = moved a b refl h

-- ── every call ──

step : (c : Call) (m n : Memory) (s : Satellite) → Holds m.numbers m.marks s → Does m c n → Holds n.numbers n.marks (after s (asks c)) × Gives s c
unfolding request_short
step (One t state r state') m n s h d =
    let b = ltb (length state) 6 in
    let p : Requested (b || false) (answered s t) m.numbers m.marks state r n.numbers n.marks state' = rw (room h, h.held) at d in
    let q : Requested b (answered s t) m.numbers m.marks state r n.numbers n.marks state' = rw (or_false b) at p in
    (one_by b t s _ _ state r _ _ state' h p, (q.answered, q.states))
step (Many ts a b c r a' b' c') m n s h d =
    let k = list_refusal (length ts) (length a) (length b) (length c) in
    let p : Listed k s m.numbers m.marks ts a b c r n.numbers n.marks a' b' c' = rw (list_number_lem _ _ (length ts) (length a) (length b) (length c) (room h), h.held) at d in
    (many_by (eqb k 0) ts s _ _ _ _ h p.numbers p.marks, (p.answered, (p.refusals, (p.states, p.rounds))))
step (Windows q start seconds samples a b r a' b') m n s h d =
    let c = asked q start seconds samples a b in
    let p : Windowed false s c m.numbers m.marks a b r n.numbers n.marks a' b' = rw (room h, h.held) at d in (
      sights_by (eqb (W.call_refusal c) 0) (D.epoch s) (W.instants_from start seconds 0 samples) s _ _ _ _ h p.numbers p.marks,
      (p.answered, (p.firsts, p.lasts)),
    )

after_append : (s : Satellite) (xs ys : List D.Request) → after s (xs ++ ys) ≡ after (after s xs) ys
after_append s [] ys = refl
after_append s (x ∷ xs) ys = after_append (D.outcome s x).satellite xs ys

steps : (cs : List Call) (m last : Memory) (s : Satellite) → Holds m.numbers m.marks s → Calls m cs last
    → Given s cs × (satellite_of last.numbers last.marks ≡ after s (requests_of cs))
steps [] m last s h d = (tt, ap (λ z. satellite_of z.numbers z.marks) (sym d) ∙ h.held)
steps (c ∷ cs) m last s h d =
    let x = step c m d.0 s h d.1 in
    let y = steps cs d.0 last (after s (asks c)) x.0 d.2 in
    ((x.1, y.0), y.1 ∙ sym (after_append s (asks c) (requests_of cs)))

-- ── demand 3 of what is told ──

abbrev head_or : {A : Type 0} → A → List A → A
head_or d [] = d
head_or d (x ∷ xs) = x

abbrev tail_of : {A : Type 0} → List A → List A
tail_of [] = []
tail_of (x ∷ xs) = xs

-- s₀ newly opened, s as it lies in memory
module _ (s₀ : Satellite) where
  abbrev i : Integrator
  i = integrator_of s₀.model

  abbrev x₀ : ℕ
  x₀ = D.epoch s₀

  abbrev rows_alone : List D.Request → List (List Row)
  rows_alone rs = map (λ r. map (D.row_alone s₀) (D.row_times x₀ r)) rs

  abbrev run_rows : Satellite → List D.Request → List (List Row)
  run_rows s rs = map (λ o. o.rows) (D.run s rs)

  one_told : (b : Bool) (t : ℤ) (state : List Float) (r : ℕ) (state' : List Float) (s : Satellite) (l : D.Last) (rs : List D.Request)
      → (r ≡ cond b (answer 17 0 0 0) (answer (answered s t).row.refusal (answered s t).row.rounds 0 (answered s t).strides.0)) × (state' ≡ cond b state (row_put (answered s t).row state))
      → run_rows s (cond b [] (D.One t ∷ []) ++ rs) ≡ rows_alone (cond b [] (D.One t ∷ []) ++ rs) → D.reported s (cond b [] (D.One t ∷ []) ++ rs) ≡ D.counted x₀ i l (cond b [] (D.One t ∷ []) ++ rs)
      → ((r ≡ cond b (answer 17 0 0 0) (answer (D.row_alone s₀ t).refusal (D.row_alone s₀ t).rounds 0 (D.counts_of i l (t ∷ [])))) × (state' ≡ cond b state (row_put (D.row_alone s₀ t) state)))
      × ((run_rows (after s (cond b [] (D.One t ∷ []))) rs ≡ rows_alone rs) × (D.reported (after s (cond b [] (D.One t ∷ []))) rs ≡ D.counted x₀ i (D.lasts_of l (cond b [] (t ∷ []))) rs))
  one_told true t state r state' s l rs g e c = (g, (e, c))
  one_told false t state r state' s l rs g e c =
      let x = answered s t in
      let row : x.row ≡ D.row_alone s₀ t = ap (λ z. head_or x.row (head_or [] z)) e in
      let n : x.strides.0 ≡ D.counts_of i l (t ∷ []) = ap (head_or 0) c in (
        (
          g.0 ∙ ap (λ z. answer z.refusal z.rounds 0 x.strides.0) row ∙ ap (λ k. answer (D.row_alone s₀ t).refusal (D.row_alone s₀ t).rounds 0 k) n,
          g.1 ∙ ap (λ z. row_put z state) row,
        ),
        (ap tail_of e, ap tail_of c),
      )

  told_of : (cs : List Call) (s : Satellite) (l : D.Last) → Given s cs → run_rows s (requests_of cs) ≡ rows_alone (requests_of cs) → D.reported s (requests_of cs) ≡ D.counted x₀ i l (requests_of cs) → Told s₀ l cs
  told_of [] s l g e c = tt
  told_of (One t state r state' ∷ cs) s l g e c =
      let x = one_told (ltb (length state) 6) t state r state' s l (requests_of cs) g.0 e c in
      (x.0, told_of cs (after s (asks (One t state r state'))) (D.lasts_of l (call_times x₀ (One t state r state'))) g.1 x.1.0 x.1.1)
  told_of (Many ts a b c r a' b' c' ∷ cs) s l g e k =
      let us = list_times ts (length a) (length b) (length c) in
      let rows : rows_from s us ≡ map (D.row_alone s₀) us = ap (head_or []) e in
      let n = ap (head_or 0) k in
      let f = g.0 in (
        (
          f.0 ∙ ap (answer (list_refusal (length ts) (length a) (length b) (length c)) 0 0) n,
          (f.1.0 ∙ ap (λ z. over (refusals_of z) a) rows, (f.1.1.0 ∙ ap (λ z. over (states_of z) b) rows, f.1.1.1 ∙ ap (λ z. over (rounds_of z) c) rows)),
        ),
        told_of cs (D.outcome s (D.Many ts (length a) (length b) (length c))).satellite (D.lasts_of l us) g.1 (ap tail_of e) (ap tail_of k),
      )
  told_of (Windows p start seconds samples a b r a' b' ∷ cs) s l g e k =
      let c = asked p start seconds samples a b in
      let us = W.times_of x₀ (W.instants_of c) in
      let ws : windows_at s c ≡ W.windows_of c (map (D.row_alone s₀) us) = ap (λ z. W.windows_of c (head_or [] z)) e in
      let n = ap (head_or 0) k in
      let f = g.0 in (
        (
          f.0 ∙ ap (λ z. answer (W.call_refusal c) 0 (length z) (D.outcome s (D.Windows c)).strides) ws ∙ ap (answer (W.call_refusal c) 0 (length (W.windows_of c (map (D.row_alone s₀) us)))) n,
          (f.1.0 ∙ ap (λ z. over (map (λ w. w.first) z) a) ws, f.1.1 ∙ ap (λ z. over (map (λ w. w.last) z) b) ws),
        ),
        told_of cs (D.outcome s (D.Windows c)).satellite (D.lasts_of l us) g.1 (ap tail_of e) (ap tail_of k),
      )

  -- the times, the counts and the strides of opening anew, by calls as by requests: a call that puts no request has no time and counts 0
  times_by : (b : Bool) (t : ℤ) (xs : List ℤ) (rs : List D.Request) → D.times x₀ rs ≡ xs → D.times x₀ (cond b [] (D.One t ∷ []) ++ rs) ≡ cond b [] (t ∷ []) ++ xs
  times_by true t xs rs e = e
  times_by false t xs rs e = ap (λ l. t ∷ l) e

  times_same : (cs : List Call) → D.times x₀ (requests_of cs) ≡ times_of x₀ cs
  times_same [] = refl
  times_same (One t state r state' ∷ cs) = times_by (ltb (length state) 6) t (times_of x₀ cs) (requests_of cs) (times_same cs)
  times_same (Many ts a b c r a' b' c' ∷ cs) = ap (λ l. list_times ts (length a) (length b) (length c) ++ l) (times_same cs)
  times_same (Windows p start seconds samples a b r a' b' ∷ cs) = ap (λ l. W.times_of x₀ (W.instants_of (asked p start seconds samples a b)) ++ l) (times_same cs)

  sum_by : (b : Bool) (t : ℤ) (l : D.Last) (rs : List D.Request) (n : ℕ) → D.sum (D.counted x₀ i (D.lasts_of l (cond b [] (t ∷ []))) rs) ≡ n
      → D.sum (D.counted x₀ i l (cond b [] (D.One t ∷ []) ++ rs)) ≡ D.counts_of i l (cond b [] (t ∷ [])) + n
  sum_by true t l rs n e = omega (arith, e)
  sum_by false t l rs n e = ap (λ k. D.counts_of i l (t ∷ []) + k) e

  sum_same : (cs : List Call) (l : D.Last) → D.sum (D.counted x₀ i l (requests_of cs)) ≡ D.sum (told_strides s₀ l cs)
  sum_same [] l = refl
  sum_same (One t state r state' ∷ cs) l =
      let b = ltb (length state) 6 in
      sum_by b t l (requests_of cs) (D.sum (told_strides s₀ (D.lasts_of l (cond b [] (t ∷ []))) cs)) (sum_same cs (D.lasts_of l (cond b [] (t ∷ []))))
  sum_same (Many ts a b c r a' b' c' ∷ cs) l =
      let us = list_times ts (length a) (length b) (length c) in
      ap (λ k. D.counts_of i l us + k) (sum_same cs (D.lasts_of l us))
  sum_same (Windows p start seconds samples a b r a' b' ∷ cs) l =
      let us = W.times_of x₀ (W.instants_of (asked p start seconds samples a b)) in
      ap (λ k. D.counts_of i l us + k) (sum_same cs (D.lasts_of l us))

  abbrev alone : List D.Request → List ℕ
  alone rs = map (λ r. D.sum (map (D.strides_alone s₀) (D.ranged (D.row_times x₀ r)))) rs

  less_by : (b : Bool) (t : ℤ) (l : D.Last) (rs : List D.Request) (xs ys : List ℕ) → (D.NoMore (D.counted x₀ i (D.lasts_of l (cond b [] (t ∷ []))) rs) (alone rs) → D.NoMore xs ys)
      → D.NoMore (D.counted x₀ i l (cond b [] (D.One t ∷ []) ++ rs)) (alone (cond b [] (D.One t ∷ []) ++ rs))
      → D.NoMore (D.counts_of i l (cond b [] (t ∷ [])) ∷ xs) (D.sum (map (D.strides_alone s₀) (D.ranged (cond b [] (t ∷ [])))) ∷ ys)
  less_by true t l rs xs ys f h = (omega arith, f h)
  less_by false t l rs xs ys f h = (h.0, f h.1)

  less_same : (cs : List Call) (l : D.Last) → D.NoMore (D.counted x₀ i l (requests_of cs)) (alone (requests_of cs)) → D.NoMore (told_strides s₀ l cs) (alone_strides s₀ cs)
  less_same [] l h = tt
  less_same (One t state r state' ∷ cs) l h =
      let b = ltb (length state) 6 in
      less_by b t l (requests_of cs) (told_strides s₀ (D.lasts_of l (cond b [] (t ∷ []))) cs) (alone_strides s₀ cs) (less_same cs (D.lasts_of l (cond b [] (t ∷ [])))) h
  less_same (Many ts a b c r a' b' c' ∷ cs) l h = (h.0, less_same cs (D.lasts_of l (list_times ts (length a) (length b) (length c))) h.1)
  less_same (Windows p start seconds samples a b r a' b' ∷ cs) l h =
      (h.0, less_same cs (D.lasts_of l (W.times_of x₀ (W.instants_of (asked p start seconds samples a b)))) h.1)

-- requests change nothing but the saved position
model_after : (rs : List D.Request) (s : Satellite) → (after s rs).model ≡ s.model
model_after [] s = refl
model_after (D.One t ∷ rs) s = model_after rs (answered s t).satellite
model_after (D.Many ts a b c ∷ rs) s =
    let us = list_times ts a b c in
    model_after rs (satellite_from s us) ∙ sym (model_same s us)
model_after (D.Windows c ∷ rs) s =
    let us = W.times_of (D.epoch s) (W.instants_of c) in
    model_after rs (satellite_from s us) ∙ sym (model_same s us)

-- ── opening ──

refusal_not : (why : Refusal) → refusal_answer why ≡ 0 → ⊥
unfolding refusal_answer answer
refusal_not (read.Length line) e = omega arith
refusal_not (read.Start line) e = omega arith
refusal_not (read.Column line column) e = omega arith
refusal_not (read.Checksum line) e = omega arith
refusal_not read.Numbers e = omega arith
refusal_not (read.Range field) e = omega arith
refusal_not read.NoForm e = omega arith

number_not : (why : O.Refusal) → answer (number why) 0 0 0 ≡ 0 → ⊥
unfolding number answer
number_not opening.Record e = omega arith
number_not opening.Perigee e = omega arith
number_not opening.NotFinite e = omega arith

long_enough : (b : Bool) → answer (cond b 17 0) 0 0 0 ≡ 0 → b ≡ false
unfolding answer
long_enough true e = absurd (omega arith)
long_enough false e = refl

opened : (o : Result Satellite PairRefusal) (ns : List Float) (ms : List ℕ) → open_answer o (length ns) (length ms) ≡ 0 → (s : Satellite) × (o ≡ Ok s) × Holds (open_numbers o ns ms) (open_marks o ns ms) s
unfolding open_answer open_numbers open_marks store_refusal
opened (Ok s) ns ms e = (s, refl, stored_holds s ns ms (long_enough (too_short (length ns) (length ms)) e))
opened (Err (pair.Unread why)) ns ms e = absurd (refusal_not why e)
opened (Err (pair.Refused why)) ns ms e = absurd (number_not why e)

pub sequences : Sequences
sequences line1 line2 m cs last e d =
    let x = opened (open_pair_of line1 line2) m.numbers m.marks e in
    let s = x.0 in
    let y = steps cs (opened_in line1 line2 m) last s x.2 d in
    let r = made_of line1 line2 s x.1 in
    let rs = requests_of cs in
    let p = demand_3 line1 line2 r.source s r.reads r.opens rs in
    let ts = times_same s cs in
    record {
      satellite = s;
      opens = x.1;
      told = told_of s cs s D.none y.0 p.rows p.counts;
      outward = λ side o.
          sym (ap D.sum p.counts ∙ sum_same s cs D.none) ∙ p.outward side (rw ts o) ∙ ap (λ l. whole_strides (integrator_of s.model) (D.farthest (D.ranged l))) ts;
      no_more = less_same s cs D.none (rw (← p.counts) p.no_more);
      kept = ap (λ z. z.model) y.1 ∙ model_after rs s;
    }
