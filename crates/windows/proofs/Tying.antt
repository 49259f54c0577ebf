-- The windows of the loop over rows are the windows of the samples: those inside the calendar have the rows, and no window has one of the others.
use mathlib.Core.Path.{◌≡◌, refl, sym, ap, ◌∙◌}
use mathlib.Core.Bool.{Bool, true, false, cond}
use mathlib.Core.List.{List, [], ◌∷◌, ◌++◌, append_assoc}
use Prim.Native.Nat.{ℕ, zero, suc, ◌+◌, ◌*◌}
use native.Mathlib.Omega.{arith}
use lib.ListN.{length, get_or, drop}
use lib.Seq.{get_or-drop, drop-drop}
use lib.Ieee.{Float, nan}
use Rattle.instant.specs.Calendar.{in_calendar}
use Rattle.sgp4.specs.declared.Row.{Row}
use Rattle.sgp4.specs.Row.{refused_row}
use Rattle.requests.specs.Lists.{refusals_of, states_of}
use Rattle.windows.specs.declared.Track.{Track}
use Rattle.runs.specs.Runs.{Sample, Window, windows_in}
use Rattle.runs.proofs.Room.{Run, closed, going, end, further, runs, loops}
use Rattle.windows.specs.Windows.{sample_micros, instants_from, times_of, sees, sight, samples_of}
use Rattle.windows.specs.Scan.{instant_at, is_seen, further_of, closing, scanned, windows_to}
use Rattle.windows.proofs.Tail.{later, rises, no_more}

-- ── the run that is open ──

abbrev pub run_by : Bool → ℕ → ℕ → Run
run_by true a b = going a b
run_by false a b = closed

abbrev pub run_of : Track → Run
run_of r = run_by r.on r.first r.last

further_by : (on : Bool) (a b t : ℕ) → going (cond on a t) t ≡ further (run_by on a b) t
further_by true a b t = refl
further_by false a b t = refl

further_of_lem : (r : Track) (t : ℕ) → run_of (further_of r t) ≡ further (run_of r) t
further_of_lem r t = further_by r.on r.first r.last t

end_by : (on : Bool) (a b : ℕ) (ws : List Window) → cond on (record { first = a; last = b } ∷ []) [] ++ ws ≡ end (run_by on a b) ws
end_by true a b ws = refl
end_by false a b ws = refl

end_of : (r : Track) (ws : List Window) → closing r ++ ws ≡ end (run_of r) ws
end_of r ws = end_by r.on r.first r.last ws

last_by : (on : Bool) (a b : ℕ) → cond on (record { first = a; last = b } ∷ []) [] ≡ end (run_by on a b) []
last_by true a b = refl
last_by false a b = refl

last_of : (r : Track) → closing r ≡ end (run_of r) []
last_of r = last_by r.on r.first r.last

-- ── samples outside the calendar ──

unseen_six : (station : List Float) (t : ℕ) → (sight station (record { instant = t; row = refused_row 6 })).visible ≡ false
unfolding sees refused_row
unseen_six station t = refl

nothing : (station : List Float) (start step n i : ℕ) (o : Run) (rs : List Row) → in_calendar (sample_micros start step i) ≡ false
    → runs o (samples_of station (instants_from start step i n) rs) ≡ end o []
nothing station start step zero i o rs h = refl
nothing station start step (suc n) i o rs h =
    rw (h, unseen_six station (sample_micros start step i))
    (ap (end o) (nothing station start step n (suc i) closed rs (later (sample_micros start step i) (sample_micros start step (suc i)) (rises start step i) h)))

-- ── samples with rows ──

-- p says of sample i, and of those after it, what their rows rs say
abbrev pub Agrees : List Float → ℕ → ℕ → (ℕ → Bool) → ℕ → List Row → Type 0
Agrees station start step p i [] = Unit {0}
Agrees station start step p i (r ∷ rs) =
    (p i ≡ (sight station (record { instant = sample_micros start step i; row = r })).visible) × Agrees station start step p (suc i) rs

impossible : {A : Type 0} → ⊥ → A
impossible = elim [ ]

module _ (station : List Float) (e start step : ℕ) (p : ℕ → Bool) where
  -- from sample i on, n samples, of which the first have rows
  abbrev Tied : ℕ → ℕ → List Row → Type 0
  Tied n i rs =
      windows_to p (instant_at start step) (i + length rs)
      ≡ (scanned p (instant_at start step) i).done
      ++ runs (run_of (scanned p (instant_at start step) i).run) (samples_of station (instants_from start step i n) rs)

  stop : (i : ℕ) → windows_to p (instant_at start step) (i + 0) ≡ (scanned p (instant_at start step) i).done ++ end (run_of (scanned p (instant_at start step) i).run) []
  stop i =
      let z : i + 0 ≡ i = omega arith in
      ap (windows_to p (instant_at start step)) z ∙ ap (λ ws. (scanned p (instant_at start step) i).done ++ ws) (last_of (scanned p (instant_at start step) i).run)

  one : (i : ℕ) (r : Row) (ss : List Sample) (ws : List Window) (v : Bool) → p i ≡ v → (sight station (record { instant = sample_micros start step i; row = r })).visible ≡ v
      → ws ≡ (scanned p (instant_at start step) (suc i)).done ++ runs (run_of (scanned p (instant_at start step) (suc i)).run) ss
      → ws
      ≡ (scanned p (instant_at start step) i).done
      ++ runs (run_of (scanned p (instant_at start step) i).run) (sight station (record { instant = sample_micros start step i; row = r }) ∷ ss)
  one i r ss ws true h g t =
      rw (g, ← (further_of_lem (scanned p (instant_at start step) i).run (sample_micros start step i))) (rw h at t)
  one i r ss ws false h g t =
      rw g
      ((rw h at t)
      ∙ append_assoc (scanned p (instant_at start step) i).done (closing (scanned p (instant_at start step) i).run) (runs closed ss)
      ∙ ap (λ vs. (scanned p (instant_at start step) i).done ++ vs) (end_of (scanned p (instant_at start step) i).run (runs closed ss)))

  sample_by : (n i : ℕ) (rs : List Row) (b : Bool) → in_calendar (sample_micros start step i) ≡ b → length rs ≡ length (times_of e (instants_from start step i (suc n)))
      → Agrees station start step p i rs
      → ((qs : List Row) → length qs ≡ length (times_of e (instants_from start step (suc i) n)) → Agrees station start step p (suc i) qs → Tied n (suc i) qs)
      → Tied (suc n) i rs
  sample_by n i [] true c h a t = let z = rw c at h in impossible (omega (arith, z))
  sample_by n i (r ∷ rs) true c h a t =
      let z = rw c at h in
      let q : length rs ≡ length (times_of e (instants_from start step (suc i) n)) = omega (arith, z) in
      let j : i + suc (length rs) ≡ suc i + length rs = omega arith in
      rw c
      (ap (windows_to p (instant_at start step)) j
      ∙ one i r (samples_of station (instants_from start step (suc i) n) rs) (windows_to p (instant_at start step) (suc i + length rs)) (p i) refl (sym a.0) (t rs q a.1))
  sample_by n i [] false c h a t =
      stop i
      ∙ ap (λ ws. (scanned p (instant_at start step) i).done ++ ws) (sym (nothing station start step (suc n) i (run_of (scanned p (instant_at start step) i).run) [] c))
  sample_by n i (r ∷ rs) false c h a t =
      let z : suc (length rs) ≡ 0 = h ∙ ap length (no_more e start step i (suc n) c) in
      impossible (omega (arith, z))

  tied_from : (n i : ℕ) (rs : List Row) → length rs ≡ length (times_of e (instants_from start step i n)) → Agrees station start step p i rs → Tied n i rs
  tied_from zero i [] h a = stop i
  tied_from zero i (r ∷ rs) h a = impossible (omega (arith, h))
  tied_from (suc n) i rs h a =
      sample_by n i rs (in_calendar (sample_micros start step i)) refl h a (λ qs. λ g. λ b. tied_from n (suc i) qs g b)

  -- the windows of the loop are those of the samples
  pub tied : (n : ℕ) (rs : List Row) → length rs ≡ length (times_of e (instants_from start step 0 n)) → Agrees station start step p 0 rs
      → windows_to p (instant_at start step) (length rs) ≡ windows_in (samples_of station (instants_from start step 0 n) rs)
  tied n rs h a =
      let z : length rs ≡ 0 + length rs = omega arith in
      ap (windows_to p (instant_at start step)) z ∙ tied_from n 0 rs h a ∙ loops (samples_of station (instants_from start step 0 n) rs)

-- ── rows where `request_list` wrote them ──

at_drop : {A : Type 0} (l ys : List A) (i j : ℕ) (d : A) → drop i l ≡ ys → get_or l (i + j) d ≡ get_or ys j d
at_drop l ys i j d h = sym (get_or-drop i l j d) ∙ ap (λ z. get_or z j d) h

same_seen : (station : List Float) (t a b : ℕ) (x y z u v w : Float) → a ≡ b → x ≡ u → y ≡ v → z ≡ w → sees station t a x y z ≡ sees station t b u v w
same_seen station t a b x y z u v w h1 h2 h3 h4 = cc

pub agrees : (station : List Float) (start step : ℕ) (refusals : List ℕ) (states : List Float) (i : ℕ) (rs : List Row) (old : List ℕ) (old' : List Float)
    → drop i refusals ≡ refusals_of rs ++ old → drop (6 * i) states ≡ states_of rs ++ old'
    → Agrees station start step (is_seen station start step refusals states) i rs
agrees station start step refusals states i [] old old' h g = tt
agrees station start step refusals states i (r ∷ rs) old old' h g =
    let z : i + 0 ≡ i = omega arith in
    let y : 6 * i + 0 ≡ 6 * i = omega arith in
    let s : i + 1 ≡ suc i = omega arith in
    let t : 6 * i + 6 ≡ 6 * suc i = omega arith in (
      same_seen station (sample_micros start step i) _ _ _ _ _ _ _ _
          (ap (λ j. get_or refusals j 0) (sym z) ∙ at_drop refusals _ i 0 0 h)
          (ap (λ j. get_or states j nan) (sym y) ∙ at_drop states _ (6 * i) 0 nan g)
          (at_drop states _ (6 * i) 1 nan g)
          (at_drop states _ (6 * i) 2 nan g),
      agrees station start step refusals states (suc i) rs old old'
          (ap (λ j. drop j refusals) (sym s) ∙ sym (drop-drop 1 i refusals) ∙ ap (drop 1) h)
          (ap (λ j. drop j states) (sym t) ∙ sym (drop-drop 6 (6 * i) states) ∙ ap (drop 6) g),
    )
