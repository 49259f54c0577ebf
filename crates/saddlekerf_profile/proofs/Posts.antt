-- What the calls leave in memory, from what the calls inside them do.
use Prim.Native.Nat.{ℕ, ◌<◌, ◌≤◌}
use mathlib.Core.Path.{◌≡◌, refl, sym, ap, ◌∙◌}
use mathlib.Core.Bool.{Bool, true, false, cond, ◌||◌}
use mathlib.Core.List.{List, [], ◌∷◌}
use lib.Dec.{eqb, ltb}
use lib.IntN.{ℤ}
use lib.ListN.{length}
use lib.Ieee.{Float}
use borrow.Author.Tests.{lt-ltb, le-ltb, eq-eqb, ne_eqb}
use Rattle.instant.specs.declared.Instant.{Instant}
use Rattle.satellite.specs.declared.NearEarth.{NearEarth}
use Rattle.resonance.specs.declared.place.Place.{Place}
use Rattle.sgp4.specs.declared.Row.{Row}
use Rattle.sgp4.specs.Row.{refused_row}
use Rattle.requests.specs.declared.Answered.{Answered}
use Rattle.requests.specs.Lists.{holding, satellite_from, list_refusal, list_times, refusals_of, states_of, rounds_of, over}
use Rattle.lent_requests.specs.Requests.{row_put}
use Rattle.storage.specs.Storage.{place_at, place_numbers, place_marks}
use Rattle.storage.specs.Near.{near_short, near_kind}
use Rattle.profile.specs.declared.rows.Asked.{Asked}
use Rattle.profile.specs.declared.rows.Listed.{Listed}
use Rattle.profile.specs.Request.{taken, answered, settled}
use Rattle.profile.specs.Lists.{rows_of, keep_if, taken_of, any_taken, satellite_after}
use Rattle.profile.specs.Rows as P
use Rattle.profile.specs.Rows.{near_row, near_rows}
use Rattle.profile.proofs.Near.{near_model, near_row_lem, near_place, near_asked_lem, settled_twice}
use Rattle.profile.proofs.Same.{no_strides}
use Rattle.answers.specs.Answer.{answer}
use Rattle.saddlekerf_profile.specs.Requests.{request_number, kept_numbers, kept_marks, Requested, RequestPost, list_number, saved_numbers, saved_marks, ListPost, settled_numbers, settled_marks, near_kept_numbers, near_kept_marks, NearAsked, near_saved_numbers, near_saved_marks, short_list}
use Rattle.saddlekerf_profile.proofs.Holds.{Near, near_satellite_lem, held_short, held_kind, epoch_in}

-- ── the near-Earth satellite's own calls ──

module _ (k : ℕ) (ns : List Float) (ms : List ℕ) where
  pub kept_33 : k ≡ 33 → (ns ≡ near_kept_numbers k ns ms) × (ms ≡ near_kept_marks k ns ms)
  kept_33 e = (rw (eq-eqb k 33 e), rw (eq-eqb k 33 e))

  pub kept_place : {ns' : List Float} {ms' : List ℕ} → (k ≡ 33 → ⊥) → ns' ≡ settled_numbers ns ms → ms' ≡ settled_marks ns ms → (ns' ≡ near_kept_numbers k ns ms) × (ms' ≡ near_kept_marks k ns ms)
  kept_place d hn hm = (rw (ne_eqb k 33 d) hn, rw (ne_eqb k 33 d) hm)

module _ (row : Row) (ns : List Float) (ms : List ℕ) (state : List Float) where
  pub ask_short : length state < 6 → (r : ℕ) → r ≡ answer 17 0 0 0 → NearAsked row ns ms state r ns ms state
  ask_short h r e = let l = lt-ltb (length state) 6 h in record { answered = rw l e; numbers = rw l; marks = rw l; states = rw l }

  asked_row : 6 ≤ length state → P.asked row (length state) ≡ record { refusal = row.refusal; rounds = row.rounds }
  asked_row h = rw (le-ltb (length state) 6 h)

  pub ask_full : 6 ≤ length state → (a : Asked) (r : ℕ) (ns' : List Float) (ms' : List ℕ) (state' : List Float) → a ≡ P.asked row (length state) → state' ≡ P.room_after row state
      → ns' ≡ near_kept_numbers a.refusal ns ms → ms' ≡ near_kept_marks a.refusal ns ms → r ≡ answer a.refusal a.rounds 0 0 → NearAsked row ns ms state r ns' ms' state'
  ask_full h a r ns' ms' state' ha hs hn hm hr =
      let l = le-ltb (length state) 6 h in
      let e : a ≡ record { refusal = row.refusal; rounds = row.rounds } = ha ∙ asked_row h in
      record {
        answered = rw l (hr ∙ ap (λ (z : Asked). answer z.refusal z.rounds 0 0) e);
        numbers = rw l (hn ∙ ap (λ (z : Asked). near_kept_numbers z.refusal ns ms) e);
        marks = rw l (hm ∙ ap (λ (z : Asked). near_kept_marks z.refusal ns ms) e);
        states = hs;
      }

-- ── one time ──

module _ (ns : List Float) (ms : List ℕ) (t : ℤ) (state : List Float) where
  refused_with : (k : ℕ) → eqb k 0 ≡ false → request_number ns ms state ≡ k → (r : ℕ) → r ≡ answer k 0 0 0 → RequestPost ns ms t state r ns ms state
  refused_with k e n r h = rw n (record { answered = rw e h; numbers = rw e; marks = rw e; states = rw e })

  pub request_deep : (near_short (length ns) (length ms) ≡ false) × (near_kind ms ≡ false) → (r : ℕ) → r ≡ answer 32 0 0 0 → RequestPost ns ms t state r ns ms state
  unfolding request_number
  request_deep h = refused_with 32 refl (rw (held_kind ns ms false h.0 h.1))

  or_true : (b c : Bool) → c ≡ true → b || c ≡ true
  or_true true c h = refl
  or_true false c h = h

  pub request_short_lem : near_short (length ns) (length ms) ≡ true → (r : ℕ) → r ≡ answer 17 0 0 0 → RequestPost ns ms t state r ns ms state
  unfolding request_number
  request_short_lem h = refused_with 17 refl (rw (held_short ns ms h, or_true (ltb (length state) 6) (near_short (length ns) (length ms)) h))

-- a row that is not 33 is that of a time that is taken, after which the position is settled
settles_by : {A : Type 0} (b : Bool) (row : Row) (p : Place) (y : A) (f : Place → A)
    → cond (eqb (cond b row (refused_row 33)).refusal 33) y (f (settled p)) ≡ cond (eqb (cond b row (refused_row 33)).refusal 33) y (f (cond b (settled p) p))
unfolding refused_row
settles_by true row p y f = refl
settles_by false row p y f = refl

settles : {A : Type 0} (n : NearEarth) (t : ℤ) (p : Place) (y : A) (f : Place → A)
    → cond (eqb (near_row n t).refusal 33) y (f (settled p)) ≡ cond (eqb (near_row n t).refusal 33) y (f (cond (taken t) (settled p) p))
unfolding near_row
settles n t p y f = settles_by (taken t) _ p y f

combine : (b : Bool) (row : Row) (x : Answered) (ns : List Float) (ms : List ℕ) (state : List Float) (r : ℕ) (ns' : List Float) (ms' : List ℕ) (state' : List Float)
    → r ≡ cond b (answer 17 0 0 0) (answer row.refusal row.rounds 0 0) → ns' ≡ cond b ns (kept_numbers row.refusal x.satellite.place ns)
    → ms' ≡ cond b ms (kept_marks row.refusal x.satellite.place ms) → state' ≡ cond b state (row_put row state) → row ≡ x.row → x.strides.0 ≡ 0
    → Requested (cond b 17 0) x ns ms state r ns' ms' state'
combine true row x ns ms state r ns' ms' state' hr hn hm hs e z = record { answered = hr; numbers = hn; marks = hm; states = hs }
combine false row x ns ms state r ns' ms' state' hr hn hm hs e z = record {
  answered = hr ∙ ap (λ (y : Row). answer y.refusal y.rounds 0 0) e ∙ sym (ap (λ s. answer x.row.refusal x.row.rounds 0 s) z);
  numbers = hn ∙ ap (λ (y : Row). kept_numbers y.refusal x.satellite.place ns) e;
  marks = hm ∙ ap (λ (y : Row). kept_marks y.refusal x.satellite.place ms) e;
  states = hs ∙ ap (λ (y : Row). row_put y state) e;
}

or_false : (b c : Bool) → c ≡ false → b || c ≡ b
or_false true c h = refl
or_false false c h = h

module _ (ns : List Float) (ms : List ℕ) (t : ℤ) (state : List Float) where
  near_number : (n : NearEarth) → Near ns ms n → request_number ns ms state ≡ cond (ltb (length state) 6) 17 0
  unfolding request_number
  near_number n h =
      ap (λ (b : Bool). cond b 32 (cond (ltb (length state) 6 || near_short (length ns) (length ms)) 17 0)) (held_kind ns ms true h.long h.kind)
      ∙ ap (λ (b : Bool). cond b 17 0) (or_false (ltb (length state) 6) (near_short (length ns) (length ms)) h.long)

  pub request_near : (n : NearEarth) → Near ns ms n → (u : ℤ) → u ≡ t → (r : ℕ) (ns' : List Float) (ms' : List ℕ) (state' : List Float)
      → NearAsked (near_row n u) ns ms state r ns' ms' state' → RequestPost ns ms t state r ns' ms' state'
  request_near n h u i r ns' ms' state' a =
      let e = epoch_in ms in
      let p = place_at ns ms in
      let s = holding (near_model n e) p in
      let x = answered s u in
      let b = ltb (length state) 6 in
      let row = near_row n u in
      let place = near_place n e p u in
      let numbers = a.numbers ∙ ap (λ l. cond b ns l) (settles n u p ns (λ q. over (place_numbers q) ns) ∙ sym (ap (λ q. kept_numbers row.refusal q ns) place)) in
      let marks = a.marks ∙ ap (λ l. cond b ms l) (settles n u p ms (λ q. over (place_marks q) ms) ∙ sym (ap (λ q. kept_marks row.refusal q ms) place)) in
      let done : Requested (cond b 17 0) x ns ms state r ns' ms' state' =
      combine b row x ns ms state r ns' ms' state' a.answered numbers marks a.states (near_row_lem n e p u) (no_strides s u) in
      rw (near_number n h, near_satellite_lem ns ms n h, ← i) done

-- ── a list ──

module _ (any : Bool) (ns : List Float) (ms : List ℕ) where
  pub not_saved : any ≡ false → (ns ≡ near_saved_numbers any ns ms) × (ms ≡ near_saved_marks any ns ms)
  not_saved e = (rw e, rw e)

  pub saved : {ns' : List Float} {ms' : List ℕ} → any ≡ true → ns' ≡ settled_numbers ns ms → ms' ≡ settled_marks ns ms → (ns' ≡ near_saved_numbers any ns ms) × (ms' ≡ near_saved_marks any ns ms)
  saved e hn hm = (rw e hn, rw e hm)

rows_near : (n : NearEarth) (e : Instant) (p : Place) (us : List ℤ) → near_rows n us ≡ rows_of (holding (near_model n e) p) us
rows_near n e p [] = refl
rows_near n e p (t ∷ us) =
    ap (λ z. z ∷ near_rows n us) (near_row_lem n e p t) ∙ ap (λ l. (answered (holding (near_model n e) p) t).row ∷ l) (rows_near n e p us)

twice : (b : Bool) (p : Place) → cond b (settled (settled p)) (settled p) ≡ settled p
twice true p = settled_twice p
twice false p = refl

after_by : (n : NearEarth) (e : Instant) (p : Place) (t : ℤ) (us : List ℤ) (b : Bool) → taken t ≡ b
    → ((q : Place) → (satellite_after (holding (near_model n e) q) us).place ≡ cond (any_taken us) (settled q) q)
    → (satellite_from (holding (near_model n e) p) (keep_if b t (taken_of us))).place ≡ cond (b || any_taken us) (settled p) p
after_by n e p t us true h rest =
    ap (λ q. (satellite_from (holding (near_model n e) q) (taken_of us)).place) (ap (λ z. z.place) (near_asked_lem n e p t h)) ∙ rest (settled p) ∙ twice (any_taken us) p
after_by n e p t us false h rest = rest p

after : (n : NearEarth) (e : Instant) (us : List ℤ) (p : Place) → (satellite_after (holding (near_model n e) p) us).place ≡ cond (any_taken us) (settled p) p
after n e [] p = refl
after n e (t ∷ us) p = after_by n e p t us (taken t) refl (after n e us)

saves : {A : Type 0} (b : Bool) (p : Place) (y : A) (f : Place → A) → cond b (f (settled p)) y ≡ cond b (f (cond b (settled p) p)) y
saves true p y f = refl
saves false p y f = refl

module _ (ns : List Float) (ms : List ℕ) (ts : List ℤ) (a : List ℕ) (b : List Float) (c : List ℕ) where
  abbrev Number : ℕ
  Number = list_number ns ms (length ts) (length a) (length b) (length c)

  list_refused : (k : ℕ) → eqb k 0 ≡ false → Number ≡ k → (r : ℕ) → r ≡ answer k 0 0 0 → ListPost ns ms ts a b c r ns ms a b c
  list_refused k e n r h = rw n (record { answered = h; numbers = rw e; marks = rw e; refusals = rw e; states = rw e; rounds = rw e })

  pub list_deep : (near_short (length ns) (length ms) ≡ false) × (near_kind ms ≡ false) → (r : ℕ) → r ≡ answer 32 0 0 0 → ListPost ns ms ts a b c r ns ms a b c
  unfolding list_number
  list_deep h = list_refused 32 refl (rw (held_kind ns ms false h.0 h.1))

  not_none : (x : Bool) → eqb (cond x 18 17) 0 ≡ false
  not_none true = refl
  not_none false = refl

  pub list_short : near_short (length ns) (length ms) ≡ true → (r : ℕ) → r ≡ answer (short_list (length ts)) 0 0 0 → ListPost ns ms ts a b c r ns ms a b c
  unfolding list_number short_list
  list_short h = list_refused (cond (ltb 1024 (length ts)) 18 17) (not_none (ltb 1024 (length ts))) (rw (held_short ns ms h, h))

  once : (x : Bool) (y : ℕ) → cond x 18 (cond x 18 y) ≡ cond x 18 y
  once true y = refl
  once false y = refl

  list_number_lem : (n : NearEarth) → Near ns ms n → Number ≡ list_refusal (length ts) (length a) (length b) (length c)
  unfolding list_number list_refusal
  list_number_lem n h = rw (held_kind ns ms true h.long h.kind, h.long) (once (ltb 1024 (length ts)) _)

  pub list_near : (n : NearEarth) → Near ns ms n → (l : Listed) (r : ℕ) (ns' : List Float) (ms' : List ℕ) (a' : List ℕ) (b' : List Float) (c' : List ℕ)
      → P.RowsPost n ts a b c l a' b' c' → r ≡ answer l.refusal 0 0 0 → ns' ≡ near_saved_numbers l.taken ns ms → ms' ≡ near_saved_marks l.taken ns ms
      → ListPost ns ms ts a b c r ns' ms' a' b' c'
  list_near n h l r ns' ms' a' b' c' f hr hn hm =
      let e = epoch_in ms in
      let p = place_at ns ms in
      let us = list_times ts (length a) (length b) (length c) in
      let rows = rows_near n e p us in
      let place = after n e us p in
      rw (list_number_lem n h, near_satellite_lem ns ms n h) (record {
        answered = hr ∙ ap (λ (z : Listed). answer z.refusal 0 0 0) f.answer;
        numbers = hn ∙ ap (λ (z : Listed). near_saved_numbers z.taken ns ms) f.answer ∙ saves (any_taken us) p ns (λ q. over (place_numbers q) ns) ∙ sym (ap (λ q. saved_numbers us q ns) place);
        marks = hm ∙ ap (λ (z : Listed). near_saved_marks z.taken ns ms) f.answer ∙ saves (any_taken us) p ms (λ q. over (place_marks q) ms) ∙ sym (ap (λ q. saved_marks us q ms) place);
        refusals = f.refusals ∙ ap (λ rs. over (refusals_of rs) a) rows;
        states = f.states ∙ ap (λ rs. over (states_of rs) b) rows;
        rounds = f.rounds ∙ ap (λ rs. over (rounds_of rs) c) rows;
      })
