-- What is asked of lent memory is what is asked of the satellite that was opened into it, and no call changes that memory.
use Prim.Native.Nat.{ℕ, ◌+◌}
use mathlib.Core.Path.{◌≡◌, refl, sym, ap, ◌∙◌}
use mathlib.Core.Bool.{Bool, true, false, cond, ◌||◌}
use mathlib.Core.List.{List, [], ◌∷◌, ◌++◌}
use native.Mathlib.Omega.{arith}
use lib.Dec.{eqb, ltb}
use lib.IntN.{ℤ}
use lib.ListN.{length, take, drop, length-append}
use lib.Ieee.{Float}
use Rattle.instant.specs.declared.Instant.{Instant}
use Rattle.tle.specs.declared.Refusal.{Refusal}
use Rattle.tle.specs.declared.Refusal.TheVariants as read
use Rattle.tle.specs.declared.Record.{Record}
use Rattle.std.specs.Prelude.{Err, Ok, Result}
use Rattle.tle.specs.Read.{read_of}
use Rattle.satellite.specs.declared.NearEarth.{NearEarth}
use Rattle.resonance.specs.declared.place.Place.{Place}
use Rattle.opening.specs.declared.opening.Satellite.{Satellite}
use Rattle.opening.specs.Opening.{newly, epoch_place}
use Rattle.requests.specs.declared.Answered.{Answered}
use Rattle.requests.specs.Lists.{holding, satellite_from, list_refusal, list_times, over}
use Rattle.lent_requests.specs.Requests.{row_put, row_times}
use Rattle.storage.specs.Storage.{satellite_of, model_at, place_at, near_earth_at, method_at, numbers_of, place_numbers, model_numbers, near_numbers, marks_of, place_marks, model_marks}
use Rattle.storage.specs.Near.{near_satellite, near_short, near_refusal, near_stored_numbers, near_stored_marks}
use Rattle.storage.proofs.Short.{enough}
use Rattle.storing.proofs.Kept.{kept}
use Rattle.profile.specs.declared.opener.Refusal.{Refusal as ProfileRefusal}
use Rattle.profile.specs.declared.opener.Refusal as P
use Rattle.profile.specs.declared.opener.Refusal.TheVariants as refusal
use Rattle.profile.specs.Opening.{number, open_of}
use Rattle.profile.specs.Request.{beyond, taken, answered, settled}
use Rattle.profile.specs.Lists.{keep_if, taken_of, any_taken, satellite_after}
use Rattle.profile.proofs.Near.{near_model, near_taken, near_place, near_asked_lem}
use Rattle.profile.proofs.Same.{same_opening, no_strides}
use Rattle.answers.specs.Answer.{answer}
use Rattle.answers.specs.Refusals.{refusal_answer}
use Rattle.saddlekerf_profile.specs.Opening.{opened_answer, opened_numbers, opened_marks, open_answer, open_numbers, open_marks}
use Rattle.saddlekerf_profile.specs.Requests.{deep_held, request_number, Requested, list_number, Listed}
use Rattle.profile_claims.specs.Sequences.{Memory, opened_in, Call, One, Many, Does, Calls, Tells, Told, Sequences}

absurd : {B : Type 0} → ⊥ → B
absurd = elim [ ]

-- ── memory that holds a satellite whose saved position no time that is taken changes ──

record Holds (m : Memory) (s : Satellite) : Type 0 where
  long : near_short (length m.numbers) (length m.marks) ≡ false
  held : satellite_of m.numbers m.marks ≡ s
  near : beyond s ≡ false
  stays : (t : ℤ) → (answered s t).satellite.place ≡ s.place
  stay : (us : List ℤ) → (satellite_after s us).place ≡ s.place
  numbers : over (place_numbers s.place) m.numbers ≡ m.numbers
  marks : over (place_marks s.place) m.marks ≡ m.marks

not_deep : (m : Memory) (s : Satellite) → Holds m s → deep_held m.numbers m.marks ≡ false
unfolding deep_held
not_deep m s h = rw (h.long, h.held) h.near

-- ── what opening leaves ──

module _ (n : NearEarth) (e : Instant) where
  abbrev s₀ : Satellite
  s₀ = near_satellite n e

  abbrev p₀ : Place
  p₀ = s₀.place

  settled_here : settled p₀ ≡ p₀
  unfolding settled newly epoch_place
  settled_here = refl

  place_by : (b : Bool) → cond b (settled p₀) p₀ ≡ p₀
  place_by true = settled_here
  place_by false = refl

  one_stays : (t : ℤ) → (answered s₀ t).satellite.place ≡ p₀
  unfolding newly
  one_stays t = near_place n e p₀ t ∙ place_by (taken t)

  list_by : (t : ℤ) (us : List ℤ) (b : Bool) → taken t ≡ b → (satellite_from (holding (near_model n e) p₀) (taken_of us)).place ≡ p₀
      → (satellite_from (holding (near_model n e) p₀) (keep_if b t (taken_of us))).place ≡ p₀
  list_by t us true h rest =
      ap (λ q. (satellite_from (holding (near_model n e) q) (taken_of us)).place) (ap (λ z. z.place) (near_asked_lem n e p₀ t h) ∙ settled_here) ∙ rest
  list_by t us false h rest = rest

  list_stays : (us : List ℤ) → (satellite_from (holding (near_model n e) p₀) (taken_of us)).place ≡ p₀
  list_stays [] = refl
  list_stays (t ∷ us) = list_by t us (taken t) refl (list_stays us)

  after_stays : (us : List ℤ) → (satellite_after s₀ us).place ≡ p₀
  unfolding newly
  after_stays us = list_stays us

  near_here : beyond s₀ ≡ false
  unfolding newly
  near_here = near_taken

  -- only the first 36 numbers are looked at
  front : (ns : List Float) (ms : List ℕ) → satellite_of (take 36 (numbers_of s₀) ++ ns) (marks_of s₀ ++ ms) ≡ satellite_of (numbers_of s₀ ++ drop 83 []) (marks_of s₀ ++ ms)
  unfolding satellite_of model_at place_at near_earth_at method_at numbers_of place_numbers model_numbers near_numbers marks_of place_marks model_marks newly
  front ns ms = refl

  lengths : (ns : List Float) → length (take 36 (numbers_of s₀) ++ ns) ≡ length ns + 36
  unfolding numbers_of place_numbers model_numbers near_numbers newly
  lengths ns = omega arith

  mark_lengths : (ms : List ℕ) → length (marks_of s₀ ++ ms) ≡ length ms + 6
  unfolding marks_of place_marks model_marks newly
  mark_lengths ms = omega arith

  same_numbers : (l : List Float) → over (place_numbers p₀) (take 36 (numbers_of s₀) ++ l) ≡ take 36 (numbers_of s₀) ++ l
  unfolding numbers_of place_numbers newly
  same_numbers l = refl

  same_marks : (l : List ℕ) → over (place_marks p₀) (marks_of s₀ ++ l) ≡ marks_of s₀ ++ l
  unfolding marks_of place_marks newly
  same_marks l = refl

  opened_holds : (ns : List Float) (ms : List ℕ) → Holds (record { numbers = take 36 (numbers_of s₀) ++ drop 36 ns; marks = marks_of s₀ ++ drop 6 ms }) s₀
  opened_holds ns ms = record {
    long = enough _ _ (omega (arith, lengths (drop 36 ns))) (omega (arith, mark_lengths (drop 6 ms)));
    held = front (drop 36 ns) (drop 6 ms) ∙ kept s₀ [] ms;
    near = near_here;
    stays = one_stays;
    stay = after_stays;
    numbers = same_numbers (drop 36 ns);
    marks = same_marks (drop 6 ms);
  }

-- ── one call ──

same : (m n : Memory) → n.numbers ≡ m.numbers → n.marks ≡ m.marks → n ≡ m
same m n a b = ap (λ (z : List Float). record { numbers = z; marks = n.marks }) a ∙ ap (λ (z : List ℕ). record { numbers = m.numbers; marks = z }) b

either : {A : Type 0} (b : Bool) (x y : A) → x ≡ y → cond b x y ≡ x
either true x y e = refl
either false x y e = sym e

module _ (m n : Memory) (s : Satellite) (h : Holds m s) where
  one_by : (b : Bool) (t : ℤ) (state : List Float) (r : ℕ) (state' : List Float) → Requested (cond b 17 0) (answered s t) m.numbers m.marks state r n.numbers n.marks state'
      → (n ≡ m) × ((r ≡ cond b (answer 17 0 0 0) (answer (answered s t).row.refusal (answered s t).row.rounds 0 0)) × (state' ≡ cond b state (row_put (answered s t).row state)))
  one_by true t state r state' p = (same m n p.numbers p.marks, (p.answered, p.states))
  one_by false t state r state' p =
      let x = answered s t in
      let c = eqb x.row.refusal 33 in
      let hn = either c m.numbers (over (place_numbers x.satellite.place) m.numbers) (sym (ap (λ q. over (place_numbers q) m.numbers) (h.stays t) ∙ h.numbers)) in
      let hm = either c m.marks (over (place_marks x.satellite.place) m.marks) (sym (ap (λ q. over (place_marks q) m.marks) (h.stays t) ∙ h.marks)) in
      (same m n (p.numbers ∙ hn) (p.marks ∙ hm), (p.answered ∙ ap (λ k. answer x.row.refusal x.row.rounds 0 k) (no_strides s t), p.states))

or_false : (b : Bool) → b || false ≡ b
or_false true = refl
or_false false = refl

either_way : {A : Type 0} (b : Bool) (x y : A) → x ≡ y → cond b x y ≡ y
either_way true x y e = e
either_way false x y e = refl

once : (b : Bool) (x : ℕ) → cond b 18 (cond false 17 (cond b 18 x)) ≡ cond b 18 x
once true x = refl
once false x = refl

request_number_lem : (m : Memory) (s : Satellite) (state : List Float) → Holds m s → request_number m.numbers m.marks state ≡ cond (ltb (length state) 6) 17 0
unfolding request_number
request_number_lem m s state h = rw (not_deep m s h, h.long, or_false (ltb (length state) 6))

list_number_lem : (m : Memory) (s : Satellite) (k a b c : ℕ) → Holds m s → list_number m.numbers m.marks k a b c ≡ list_refusal k a b c
unfolding list_number list_refusal
list_number_lem m s k a b c h = rw (not_deep m s h, h.long) (once (ltb 1024 k) _)

step : (c : Call) (m n : Memory) (s : Satellite) → Holds m s → Does m c n → (n ≡ m) × Tells s c
step (One t state r state') m n s h d =
    let p : Requested (cond (ltb (length state) 6) 17 0) (answered s t) m.numbers m.marks state r n.numbers n.marks state' = rw (request_number_lem m s state h, h.held) at d in
    one_by m n s h (ltb (length state) 6) t state r state' p
step (Many ts a b c r a' b' c') m n s h d =
    let k = list_refusal (length ts) (length a) (length b) (length c) in
    let us = row_times k ts in
    let p : Listed k s us m.numbers m.marks a b c r n.numbers n.marks a' b' c' = rw (list_number_lem m s (length ts) (length a) (length b) (length c) h, h.held) at d in
    let hn = either_way (any_taken us) (over (place_numbers (satellite_after s us).place) m.numbers) m.numbers (ap (λ q. over (place_numbers q) m.numbers) (h.stay us) ∙ h.numbers) in
    let hm = either_way (any_taken us) (over (place_marks (satellite_after s us).place) m.marks) m.marks (ap (λ q. over (place_marks q) m.marks) (h.stay us) ∙ h.marks) in
    (same m n (p.numbers ∙ hn) (p.marks ∙ hm), (p.answered, (p.refusals, (p.states, p.rounds))))

-- ── every call ──

steps : (cs : List Call) (m last : Memory) (s : Satellite) → Holds m s → Calls m cs last → Told s cs × (last ≡ m)
steps [] m last s h d = (tt, sym d)
steps (c ∷ cs) m last s h d =
    let x = step c m d.0 s h d.1 in
    let y = steps cs m last s h (rw x.0 at d.2) in
    ((x.1, y.0), y.1)

-- ── opening ──

refusal_not : (why : Refusal) → refusal_answer why ≡ 0 → ⊥
unfolding refusal_answer answer
refusal_not (read.Length line) e = omega arith
refusal_not (read.Start line) e = omega arith
refusal_not (read.Column line column) e = omega arith
refusal_not (read.Checksum line) e = omega arith
refusal_not read.Numbers e = omega arith
refusal_not (read.Range field) e = omega arith
refusal_not read.NoForm e = omega arith

number_not : (why : P.Refusal) → answer (number why) 0 0 0 ≡ 0 → ⊥
unfolding number answer
number_not refusal.Record e = omega arith
number_not refusal.Perigee e = omega arith
number_not refusal.DeepSpace e = omega arith
number_not refusal.NotFinite e = omega arith

long_enough : (b : Bool) → answer (cond b 17 0) 0 0 0 ≡ 0 → b ≡ false
unfolding answer
long_enough true e = absurd (omega arith)
long_enough false e = refl

record Opened (r : Record) (m : Memory) : Type 0 where
  near : NearEarth
  epoch : Instant
  opens : open_of r ≡ Ok (near, epoch)
  holds : Holds m (near_satellite near epoch)

stored : (n : NearEarth) (t : Instant) (ns : List Float) (ms : List ℕ) → near_short (length ns) (length ms) ≡ false
    → Holds (record { numbers = near_stored_numbers (near_satellite n t) ns ms; marks = near_stored_marks (near_satellite n t) ns ms }) (near_satellite n t)
unfolding near_stored_numbers near_stored_marks
stored n t ns ms h = rw h (opened_holds n t ns ms)

opened_by : (r : Record) (o : Result (NearEarth × Instant) ProfileRefusal) (ns : List Float) (ms : List ℕ) → open_of r ≡ o → opened_answer o (length ns) (length ms) ≡ 0
    → Opened r (record { numbers = opened_numbers o ns ms; marks = opened_marks o ns ms })
unfolding opened_answer opened_numbers opened_marks near_refusal
opened_by r (Ok (n, t)) ns ms h e = record { near = n; epoch = t; opens = h; holds = stored n t ns ms (long_enough (near_short (length ns) (length ms)) e) }
opened_by r (Err why) ns ms h e = absurd (number_not why e)

read_by : (x : Result Record Refusal) (ns : List Float) (ms : List ℕ) → open_answer x (length ns) (length ms) ≡ 0
    → (r : Record) × (x ≡ Ok r) × Opened r (record { numbers = open_numbers x ns ms; marks = open_marks x ns ms })
unfolding open_answer open_numbers open_marks
read_by (Ok r) ns ms e = (r, refl, opened_by r (open_of r) ns ms refl e)
read_by (Err why) ns ms e = absurd (refusal_not why e)

pub sequences : Sequences
sequences line1 line2 m cs last e d =
    let x = read_by (read_of line1 line2) m.numbers m.marks e in
    let o = x.2 in
    let s = near_satellite o.near o.epoch in
    let y = steps cs (opened_in line1 line2 m) last s o.holds d in
    record {
      source = x.0;
      satellite = s;
      reads = x.1;
      opens = same_opening x.0 o.near o.epoch o.opens;
      near = o.holds.near;
      told = y.0;
      kept = y.1;
    }
