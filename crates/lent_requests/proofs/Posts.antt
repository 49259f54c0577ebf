-- What requests leave in memory, from what the calls inside them do.
use Prim.Native.Nat.{ℕ, ◌<◌, ◌≤◌}
use mathlib.Core.Path.{◌≡◌, refl, ap, ◌∙◌}
use mathlib.Core.Bool.{Bool, true, false}
use mathlib.Core.List.{List}
use lib.Dec.{eqb}
use lib.IntN.{ℤ}
use lib.ListN.{length}
use lib.Ieee.{Float}
use borrow.Author.Tests.{lt-ltb, le-ltb}
use Rattle.opening.specs.declared.opening.Satellite.{Satellite}
use Rattle.requests.specs.declared.Answered.{Answered}
use Rattle.requests.specs.declared.ListAnswer.{ListAnswer}
use Rattle.requests.specs.Request.{answered}
use Rattle.requests.specs.Lists as L
use Rattle.storage.specs.Storage.{too_short, satellite_of}
use Rattle.answers.specs.Answer.{answer}
use Rattle.lent_requests.specs.Requests.{request_short, row_put, kept_numbers, kept_marks, Requested, RequestPost, list_number, saved_numbers, saved_marks, ListPost}

-- ── one time ──

module _ (ns : List Float) (ms : List ℕ) (t : ℤ) (state : List Float) where
  refused : (b : Bool) → b ≡ true → (x : Answered) (r : ℕ) → r ≡ answer 17 0 0 0 → Requested b x ns ms state r ns ms state
  refused b e x r h = rw e (record { answered = h; numbers = refl; marks = refl; states = refl })

  pub room_short : length state < 6 → (r : ℕ) → r ≡ answer 17 0 0 0 → RequestPost ns ms t state r ns ms state
  unfolding request_short
  room_short h r e = refused _ (rw (lt-ltb _ _ h)) _ r e

  pub memory_short : 6 ≤ length state → too_short (length ns) (length ms) ≡ true → (r : ℕ) → r ≡ answer 17 0 0 0 → RequestPost ns ms t state r ns ms state
  unfolding request_short
  memory_short h k r e = refused _ (rw (le-ltb _ _ h, k)) _ r e

  full : (b : Bool) → b ≡ false → (x y : Answered) (r : ℕ) (ns' : List Float) (ms' : List ℕ) (state' : List Float) → x ≡ y
      → r ≡ answer x.row.refusal x.row.rounds 0 x.strides.0 → ns' ≡ kept_numbers x.row.refusal x.satellite.place ns ms → ms' ≡ kept_marks x.row.refusal x.satellite.place ns ms → state' ≡ row_put x.row state
      → Requested b y ns ms state r ns' ms' state'
  full b e x y r ns' ms' state' w h hn hm hs = rw (e, ← w) (record { answered = h; numbers = hn; marks = hm; states = hs })

  pub request_full : 6 ≤ length state → (s : Satellite) → (too_short (length ns) (length ms) ≡ false) × (s ≡ satellite_of ns ms)
      → (x : Answered) (u : ℤ) (r : ℕ) (ns' : List Float) (ms' : List ℕ) (state' : List Float) → x ≡ answered s u → u ≡ t
      → r ≡ answer x.row.refusal x.row.rounds 0 x.strides.0 → ns' ≡ kept_numbers x.row.refusal x.satellite.place ns ms → ms' ≡ kept_marks x.row.refusal x.satellite.place ns ms → state' ≡ row_put x.row state
      → RequestPost ns ms t state r ns' ms' state'
  unfolding request_short
  request_full h s l x u r ns' ms' state' e i =
      full _ (rw (le-ltb _ _ h, l.0)) x _ r ns' ms' state' (e ∙ ap (answered s) i ∙ ap (λ z. answered z t) l.1)

-- ── a list ──

module _ (ns : List Float) (ms : List ℕ) (ts : List ℤ) (a : List ℕ) (b : List Float) (c : List ℕ) where
  abbrev Number : ℕ
  Number = list_number (length ns) (length ms) (length ts) (length a) (length b) (length c)

  list_refused : (k : ℕ) → eqb k 0 ≡ false → Number ≡ k → (r : ℕ) → r ≡ answer k 0 0 0 → ListPost ns ms ts a b c r ns ms a b c
  list_refused k e n r h = rw n (record { answered = rw e h; numbers = rw e; marks = rw e; refusals = rw e; states = rw e; rounds = rw e })

  pub too_long : 1024 < length ts → (r : ℕ) → r ≡ answer 18 0 0 0 → ListPost ns ms ts a b c r ns ms a b c
  unfolding list_number
  too_long h = list_refused 18 refl (rw (lt-ltb _ _ h))

  pub list_memory_short : length ts ≤ 1024 → too_short (length ns) (length ms) ≡ true → (r : ℕ) → r ≡ answer 17 0 0 0 → ListPost ns ms ts a b c r ns ms a b c
  unfolding list_number
  list_memory_short h k = list_refused 17 refl (rw (le-ltb _ _ h, k))

  pub list_full : length ts ≤ 1024 → (s : Satellite) → (too_short (length ns) (length ms) ≡ false) × (s ≡ satellite_of ns ms)
      → (x : ListAnswer) (r : ℕ) (ns' : List Float) (ms' : List ℕ) (a' : List ℕ) (b' : List Float) (c' : List ℕ) → L.ListPost s ts a b c x a' b' c'
      → r ≡ answer x.refusal 0 0 x.strides.0 → ns' ≡ saved_numbers x.refusal x.satellite.place ns ms → ms' ≡ saved_marks x.refusal x.satellite.place ns ms
      → ListPost ns ms ts a b c r ns' ms' a' b' c'
  unfolding list_number
  list_full h s l x r ns' ms' a' b' c' p hr hn hm =
      let k = L.list_refusal (length ts) (length a) (length b) (length c) in
      let same : Number ≡ k = rw (le-ltb _ _ h, l.0) in
      rw (same, ← l.1) (record {
        answered = hr ∙ ap (λ z. answer z.refusal 0 0 z.strides.0) p.answer;
        numbers = hn ∙ ap (λ z. saved_numbers z.refusal z.satellite.place ns ms) p.answer;
        marks = hm ∙ ap (λ z. saved_marks z.refusal z.satellite.place ns ms) p.answer;
        refusals = p.refusals;
        states = p.states;
        rounds = p.rounds;
      })
