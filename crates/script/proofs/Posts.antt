-- What a script leaves, from what its requests do: demand 3 of the memory.
use mathlib.Core.Path.{◌≡◌, refl, sym, ap, ◌∙◌, subst}
use mathlib.Core.Bool.{Bool, true, false}
use mathlib.Core.List.{List, [], ◌∷◌, ◌++◌, map}
use Prim.Native.Nat.{ℕ, suc}
use lib.ListN.{length, take, drop}
use lib.Seq.{take-append_seam}
use lib.IntN.{ℤ}
use lib.Ieee.{Float}
use Rattle.sgp4.specs.declared.Row.{Row}
use Rattle.opening.specs.declared.opening.Satellite.{Satellite}
use Rattle.std.specs.Prelude.{Err, Ok, Result}
use Rattle.opening.specs.declared.opening.PairRefusal.{PairRefusal}
use Rattle.opening.specs.declared.opening.PairRefusal.TheVariants as pair
use Rattle.opening.specs.Opening.{open_pair_of}
use Rattle.opening.proofs.Made.{made_of}
use Rattle.requests.specs.Lists.{refusals_of, states_of, rounds_of, over}
use Rattle.sequences.specs.Demand3.{Request, One, Many, Windows, Outcome, outcome, row_times, run, sum, reported, ranged, row_alone, strides_alone, windows_alone, NoMore, epoch, Demand3}
use Rattle.sequences.proofs.Demand3.{demand_3}
use Rattle.script.specs.declared.ScriptRefusal.{ScriptRefusal}
use Rattle.script.specs.declared.ScriptRefusal.TheVariants.{Short, Unopened}
use Rattle.script_room.specs.Room.{suffices}
use Rattle.script_steps.specs.Steps.{written, laid_all, script, rows_of, windows_of, firsts_of, lasts_of, strides_of, found_of, Left, Runs}
use Rattle.script.specs.Script.{written_all, TwoKinds, joined, Demanded, ran_of, Post}

absurd : {B : Type 0} → ⊥ → B
absurd = elim [ ]

-- ── demand 3 ──

module _ {A : Type 0} where
  abbrev head_or : A → List A → A
  head_or a [] = a
  head_or a (x ∷ xs) = x

  abbrev tail_of : List A → List A
  tail_of [] = []
  tail_of (x ∷ xs) = xs

map_append : (f : ℤ → Row) (xs ys : List ℤ) → map f (xs ++ ys) ≡ map f xs ++ map f ys
map_append f [] ys = refl
map_append f (x ∷ xs) ys = ap (λ l. f x ∷ l) (map_append f xs ys)

-- what is kept of the rows, where each request's are those of the newly opened satellite s₀
rows_kept : (s₀ s : Satellite) (rs : List Request) → map (λ o. o.rows) (run s rs) ≡ map (λ r. map (row_alone s₀) (row_times (epoch s₀) r)) rs
    → rows_of (laid_all s rs) ≡ map (row_alone s₀) (written_all rs)
rows_kept s₀ s [] h = refl
rows_kept s₀ s (One t ∷ rs) h =
    let o = outcome s (One t) in
    ap (λ u. u ++ rows_of (laid_all o.satellite rs)) (ap (head_or []) h)
    ∙ ap (λ u. map (row_alone s₀) (t ∷ []) ++ u) (rows_kept s₀ o.satellite rs (ap tail_of h))
rows_kept s₀ s (Many ts a b c ∷ rs) h =
    let o = outcome s (Many ts a b c) in
    ap (λ u. u ++ rows_of (laid_all o.satellite rs)) (ap (head_or []) h)
    ∙ ap (λ u. map (row_alone s₀) (written (Many ts a b c)) ++ u) (rows_kept s₀ o.satellite rs (ap tail_of h))
    ∙ sym (map_append (row_alone s₀) (written (Many ts a b c)) (written_all rs))
rows_kept s₀ s (Windows c ∷ rs) h = rows_kept s₀ (outcome s (Windows c)).satellite rs (ap tail_of h)

strides_kept : (s : Satellite) (rs : List Request) → strides_of (laid_all s rs) ≡ reported s rs
strides_kept s [] = refl
strides_kept s (One t ∷ rs) = ap (λ u. (outcome s (One t)).strides ∷ u) (strides_kept (outcome s (One t)).satellite rs)
strides_kept s (Many ts a b c ∷ rs) = ap (λ u. (outcome s (Many ts a b c)).strides ∷ u) (strides_kept (outcome s (Many ts a b c)).satellite rs)
strides_kept s (Windows c ∷ rs) = ap (λ u. (outcome s (Windows c)).strides ∷ u) (strides_kept (outcome s (Windows c)).satellite rs)

windows_kept : (s : Satellite) (rs : List Request) → map (λ o. o.windows) (laid_all s rs) ≡ map (λ o. o.windows) (run s rs)
windows_kept s [] = refl
windows_kept s (One t ∷ rs) = ap (λ u. (outcome s (One t)).windows ∷ u) (windows_kept (outcome s (One t)).satellite rs)
windows_kept s (Many ts a b c ∷ rs) = ap (λ u. (outcome s (Many ts a b c)).windows ∷ u) (windows_kept (outcome s (Many ts a b c)).satellite rs)
windows_kept s (Windows c ∷ rs) = ap (λ u. (outcome s (Windows c)).windows ∷ u) (windows_kept (outcome s (Windows c)).satellite rs)

joined_windows : (os : List Outcome) → windows_of os ≡ joined (map (λ o. o.windows) os)
joined_windows [] = refl
joined_windows (o ∷ os) = ap (λ u. o.windows ++ u) (joined_windows os)

found_windows : (os : List Outcome) → found_of os ≡ map length (map (λ o. o.windows) os)
found_windows [] = refl
found_windows (o ∷ os) = ap (λ u. length o.windows ∷ u) (found_windows os)

pub two_kinds : TwoKinds
two_kinds e [] h = refl
two_kinds e (One t ∷ rs) h = ap (λ u. t ∷ u) (two_kinds e rs h)
two_kinds e (Many ts a b c ∷ rs) h = ap (λ u. written (Many ts a b c) ++ u) (two_kinds e rs h)
two_kinds e (Windows c ∷ rs) h = absurd h

length_reported : (s : Satellite) (rs : List Request) → length (reported s rs) ≡ length rs
length_reported s [] = refl
length_reported s (r ∷ rs) = ap suc (length_reported (outcome s r).satellite rs)

demanded : (s : Satellite) (rs : List Request) (a : List ℕ) (b : List Float) (c f l d e a' : List ℕ) (b' : List Float) (c' f' l' d' e' : List ℕ)
    → Demand3 s rs → Left s rs a b c f l d e a' b' c' f' l' d' e' → Demanded s rs a b c f l d e a' b' c' f' l' d' e'
demanded s rs a b c f l d e a' b' c' f' l' d' e' p x =
    let rows : rows_of (laid_all s rs) ≡ map (row_alone s) (written_all rs) = rows_kept s s rs p.rows in
    let seen : map (λ o. o.windows) (laid_all s rs) ≡ map (windows_alone s) rs = windows_kept s rs ∙ p.windows in
    let windows : windows_of (laid_all s rs) ≡ joined (map (windows_alone s) rs) = joined_windows (laid_all s rs) ∙ ap (λ u. joined u) seen in
    let strides : d' ≡ over (reported s rs) d = x.strides ∙ ap (λ u. over u d) (strides_kept s rs) in
    let front : take (length rs) d' ≡ reported s rs =
    ap (λ n. take n d') (sym (length_reported s rs)) ∙ ap (take (length (reported s rs))) strides
    ∙ take-append_seam (reported s rs) (drop (length (reported s rs)) d) in
    record {
      refusals = x.refusals ∙ ap (λ u. over (refusals_of u) a) rows;
      states = x.states ∙ ap (λ u. over (states_of u) b) rows;
      rounds = x.rounds ∙ ap (λ u. over (rounds_of u) c) rows;
      firsts = x.firsts ∙ ap (λ u. over (firsts_of u) f) windows;
      lasts = x.lasts ∙ ap (λ u. over (lasts_of u) l) windows;
      found = x.found ∙ ap (λ u. over u e) (found_windows (laid_all s rs) ∙ ap (map length) seen);
      counts = strides ∙ ap (λ u. over u d) p.counts;
      outward = λ y o. ap sum front ∙ p.outward y o;
      no_more = subst (λ u. NoMore u (map (λ r. sum (map (strides_alone s) (ranged (row_times (epoch s) r)))) rs)) (sym front) p.no_more;
    }

-- ── the answers ──

abbrev pub NotDone : Result (Unit {0}) ScriptRefusal → Type 0
NotDone (Ok tt) = ⊥
NotDone (Err why) = Unit {0}

abbrev satellite_or : Satellite → Result Satellite PairRefusal → Satellite
satellite_or s (Ok t) = t
satellite_or s (Err why) = s

module _ (line1 line2 ns : List ℕ) (ts : List ℤ) (ps : List Float) (qs : List ℕ) (a : List ℕ) (b : List Float) (c f l d e : List ℕ) where
  abbrev All : Bool
  All = suffices ns (length ts) (length a) (length b) (length c) (length d) (length ps) (length qs) (length e)

  unrun_post : (r : Result (Unit {0}) ScriptRefusal) → NotDone r → r ≡ ran_of All (open_pair_of line1 line2) → Post line1 line2 ns ts ps qs a b c f l d e r a b c f l d e
  unrun_post r n h = record {
    answer = h;
    unrun = λ u. (refl, refl, refl, refl, refl, refl, refl);
    ran = λ s o u. absurd (subst NotDone u n);
  }

  short_is : (o : Result Satellite PairRefusal) → Err Short ≡ ran_of false o
  unfolding ran_of
  short_is o = refl

  done_is : (s : Satellite) → Ok tt ≡ ran_of true (Ok s)
  unfolding ran_of
  done_is s = refl

  pub post_short : All ≡ false → Post line1 line2 ns ts ps qs a b c f l d e (Err Short) a b c f l d e
  post_short h = unrun_post (Err Short) tt (short_is (open_pair_of line1 line2) ∙ ap (λ u. ran_of u (open_pair_of line1 line2)) (sym h))

  answer_of_lem : (r : Result (Unit {0}) ScriptRefusal) (o : Result Satellite PairRefusal) → r ≡ ran_of true o → All ≡ true → open_pair_of line1 line2 ≡ o → r ≡ ran_of All (open_pair_of line1 line2)
  answer_of_lem r o h x k = h ∙ ap (ran_of true) (sym k) ∙ ap (λ u. ran_of u (open_pair_of line1 line2)) (sym x)

  pub post_closed : (r : Result (Unit {0}) ScriptRefusal) (o : Result Satellite PairRefusal) → NotDone r → All ≡ true → open_pair_of line1 line2 ≡ o → r ≡ ran_of true o → Post line1 line2 ns ts ps qs a b c f l d e r a b c f l d e
  post_closed r o n x k h = unrun_post r n (answer_of_lem r o h x k)

  -- what `run_requests` says of a script that has room
  pub left_of_lem : (s : Satellite) (r : Bool) (a' : List ℕ) (b' : List Float) (c' f' l' d' e' : List ℕ) → All ≡ true → Runs s ns ts ps qs a b c f l d e r a' b' c' f' l' d' e'
      → Left s (script s ns 0 ts ps qs (length a) (length b) (length c) (length f) (length l)) a b c f l d e a' b' c' f' l' d' e'
  left_of_lem s r a' b' c' f' l' d' e' x p = p.ran (p.answer ∙ x)

  pub post_done : (s : Satellite) (a' : List ℕ) (b' : List Float) (c' f' l' d' e' : List ℕ) → All ≡ true → open_pair_of line1 line2 ≡ Ok s
      → Left s (script s ns 0 ts ps qs (length a) (length b) (length c) (length f) (length l)) a b c f l d e a' b' c' f' l' d' e' → Post line1 line2 ns ts ps qs a b c f l d e (Ok tt) a' b' c' f' l' d' e'
  post_done s a' b' c' f' l' d' e' x k z =
      let m = made_of line1 line2 s k in
      let rs = script s ns 0 ts ps qs (length a) (length b) (length c) (length f) (length l) in
      record {
        answer = answer_of_lem (Ok tt) (Ok s) (done_is s) x k;
        unrun = λ h. absurd (h refl);
        ran = λ t o h.
            subst (λ u. Demanded u (script u ns 0 ts ps qs (length a) (length b) (length c) (length f) (length l)) a b c f l d e a' b' c' f' l' d' e') (ap (satellite_or s) (sym k ∙ o))
            (demanded s rs a b c f l d e a' b' c' f' l' d' e' (demand_3 line1 line2 m.source s m.reads m.opens rs) z);
      }
