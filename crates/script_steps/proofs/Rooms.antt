-- A list's rows put after those that the rooms hold already.
use mathlib.Core.Path.{◌≡◌, refl, ap, ◌∙◌}
use mathlib.Core.List.{List, [], ◌∷◌, ◌++◌, append-nil}
use Prim.Native.Nat.{ℕ, zero, suc, ◌+◌, ◌-◌, ◌*◌, ◌≤◌}
use native.Mathlib.Omega.{arith}
use lib.ListN.{length, take, drop, length-drop}
use lib.Seq.{drop-length, take_all}
use lib.Dec.{eqb, ltb}
use mathlib.Core.Bool.{Bool, true, false, cond}
use borrow.Author.Tests.{le-ltb, ltb-false, eq-eqb, eqb-true}
use borrow.Rule.Slice.PartMut.{mid_of, put_mid, Post-is}
use lib.IntN.{ℤ}
use lib.Ieee.{Float}
use Rattle.opening.specs.declared.opening.Satellite.{Satellite}
use Rattle.requests.specs.declared.ListAnswer.{ListAnswer}
use Rattle.requests.specs.Request.{answered}
use Rattle.requests.specs.Lists.{states_of, refusals_of, rounds_of, rows_from, strides_from, satellite_from, list_refusal, list_times, listed, ListPost, over}
use Rattle.sequences.specs.Demand3.{One, Many}
use Rattle.script_room.specs.Room.{due}
use Rattle.script_steps.specs.Steps.{request_of, Listed, written}

-- ── a list, in what is left of the rooms ──

module _ {A : Type 0} where
  -- what is lent from n on is all that lies there
  pub rest : (l : List A) (n : ℕ) → mid_of n (length l - n) l ≡ drop n l
  rest l n = let h : length (drop n l) ≤ length l - n = omega (arith, length-drop n l) in take_all (length l - n) (drop n l) h

  -- and is put back after what lies before
  pub back : (l p : List A) (n : ℕ) → n ≤ length l → put_mid n (length l - n) l p ≡ take n l ++ p
  back l p n h =
      ap (λ z. take n l ++ (p ++ z)) (Post-is n (length l) l h ∙ drop-length l) ∙ ap (λ z. take n l ++ z) (append-nil p)

pub many_step : (s : Satellite) (ts : List ℤ) (rows : ℕ) (a : List ℕ) (b : List Float) (c : List ℕ) (r : ListAnswer) (a'' : List ℕ) (b'' : List Float) (c'' : List ℕ) (k : ℕ)
    → rows ≤ length a → 6 * rows ≤ length b → rows ≤ length c
    → ListPost s ts (mid_of rows (length a - rows) a) (mid_of (6 * rows) (length b - 6 * rows) b) (mid_of rows (length c - rows) c) r a'' b'' c''
    → (r.refusal ≡ list_refusal (length ts) (length a - rows) (length b - 6 * rows) (length c - rows) → k ≡ length (written (Many ts (length a - rows) (length b - 6 * rows) (length c - rows))))
    → Listed s (Many ts (length a - rows) (length b - 6 * rows) (length c - rows)) rows a b c r.satellite r.strides.0 k
    (put_mid rows (length a - rows) a a'') (put_mid (6 * rows) (length b - 6 * rows) b b'') (put_mid rows (length c - rows) c c'')
many_step s ts rows a b c r a'' b'' c'' k ha hb hc p hk =
    let na : length (mid_of rows (length a - rows) a) ≡ length a - rows = ap length (rest a rows) ∙ length-drop rows a in
    let nb : length (mid_of (6 * rows) (length b - 6 * rows) b) ≡ length b - 6 * rows = ap length (rest b (6 * rows)) ∙ length-drop (6 * rows) b in
    let nc : length (mid_of rows (length c - rows) c) ≡ length c - rows = ap length (rest c rows) ∙ length-drop rows c in
    let us : (i j k : ℕ) → List ℤ = list_times ts in
    let added = rows_from s (list_times ts (length a - rows) (length b - 6 * rows) (length c - rows)) in
    let answer : r ≡ listed s ts (length a - rows) (length b - 6 * rows) (length c - rows) =
    p.answer ∙ ap (λ i. listed s ts i (length (mid_of (6 * rows) (length b - 6 * rows) b)) (length (mid_of rows (length c - rows) c))) na
    ∙ ap (λ i. listed s ts (length a - rows) i (length (mid_of rows (length c - rows) c))) nb ∙ ap (λ i. listed s ts (length a - rows) (length b - 6 * rows) i) nc in
    let same : list_times ts (length (mid_of rows (length a - rows) a)) (length (mid_of (6 * rows) (length b - 6 * rows) b)) (length (mid_of rows (length c - rows) c))
    ≡ list_times ts (length a - rows) (length b - 6 * rows) (length c - rows) =
    ap (λ i. us i (length (mid_of (6 * rows) (length b - 6 * rows) b)) (length (mid_of rows (length c - rows) c))) na
    ∙ ap (λ i. us (length a - rows) i (length (mid_of rows (length c - rows) c))) nb ∙ ap (λ i. us (length a - rows) (length b - 6 * rows) i) nc in
    record {
      satellite = ap (λ z. z.satellite) answer;
      strides = ap (λ z. z.strides.0) answer;
      added = hk (ap (λ z. z.refusal) answer);
      refusals = back a a'' rows ha ∙ ap (λ z. take rows a ++ z) (p.refusals ∙ ap (λ z. over (refusals_of (rows_from s z)) (mid_of rows (length a - rows) a)) same ∙ ap (over (refusals_of added)) (rest a rows));
      states = back b b'' (6 * rows) hb ∙ ap (λ z. take (6 * rows) b ++ z) (p.states ∙ ap (λ z. over (states_of (rows_from s z)) (mid_of (6 * rows) (length b - 6 * rows) b)) same ∙ ap (over (states_of added)) (rest b (6 * rows)));
      rounds = back c c'' rows hc ∙ ap (λ z. take rows c ++ z) (p.rounds ∙ ap (λ z. over (rounds_of (rows_from s z)) (mid_of rows (length c - rows) c)) same ∙ ap (over (rounds_of added)) (rest c rows));
    }

added_by : (b : Bool) (ts : List ℤ) → cond b (length ts) 0 ≡ length (cond b ts [])
added_by true ts = refl
added_by false ts = refl

-- the rows that are added are those of the list's times
pub rows_added : (ts : List ℤ) (i j k n m : ℕ) → m ≡ cond (eqb n 0) (length ts) 0 → n ≡ list_refusal (length ts) i j k → m ≡ length (list_times ts i j k)
rows_added ts i j k n m h e = h ∙ ap (λ z. cond (eqb z 0) (length ts) 0) e ∙ added_by (eqb (list_refusal (length ts) i j k) 0) ts

-- a request's rows are no more than it has room for
clear : (p q r s : Bool) → ◌≡◌ {A = ℕ} (cond p 18 (cond q 17 (cond r 17 (cond s 17 0)))) 0 → (q ≡ false) × (r ≡ false) × (s ≡ false)
clear true q r s e = absurd (omega arith)
clear false true r s e = absurd (omega arith)
clear false false true s e = absurd (omega arith)
clear false false false true e = absurd (omega arith)
clear false false false false e = (refl, refl, refl)

-- a list that is not refused has room
list_room : (n i j k : ℕ) → list_refusal n i j k ≡ 0 → (n ≤ i) × (6 * n ≤ j) × (n ≤ k)
unfolding list_refusal
list_room n i j k e =
    let c = clear (ltb 1024 n) (ltb i n) (ltb j (6 * n)) (ltb k n) e in
    (ltb-false i n c.0, ltb-false j (6 * n) c.1, ltb-false k n c.2)

bound_by : (b : Bool) (us : List ℤ) (i j k : ℕ) → eqb (list_refusal (length us) i j k) 0 ≡ b
    → (length (cond b us []) ≤ i) × (6 * length (cond b us []) ≤ j) × (length (cond b us []) ≤ k)
bound_by true us i j k e = list_room (length us) i j k (eqb-true (list_refusal (length us) i j k) 0 e)
bound_by false us i j k e = (omega arith, omega arith, omega arith)

pub rows_bound : (n z : ℕ) (ts : List ℤ) (ps : List Float) (qs : List ℕ) (i j k f l : ℕ) → due n ≤ i → 6 * due n ≤ j → due n ≤ k
    → (length (written (request_of n z ts ps qs i j k f l)) ≤ i) × (6 * length (written (request_of n z ts ps qs i j k f l)) ≤ j) × (length (written (request_of n z ts ps qs i j k f l)) ≤ k)
rows_bound zero z ts ps qs i j k f l a b c = (a, b, c)
rows_bound (suc zero) z ts ps qs i j k f l a b c = (omega arith, omega arith, omega arith)
rows_bound (suc (suc n)) z ts ps qs i j k f l a b c = bound_by (eqb (list_refusal (length (take n ts)) i j k) 0) (take n ts) i j k refl

-- ── one time is a list of one ──

one_room : (i j k : ℕ) → 1 ≤ i → 6 ≤ j → 1 ≤ k → list_refusal 1 i j k ≡ 0
unfolding list_refusal
one_room i j k hi hj hk = rw (le-ltb i 1 hi, le-ltb j 6 hj, le-ltb k 1 hk)

plus_none : (n : ℕ) → n + 0 ≡ n
plus_none n = omega arith

-- put as a list with room for it, a time gives the same row, strides and satellite
pub one_alike : (s : Satellite) (t : ℤ) (i j k : ℕ) → 1 ≤ i → 6 ≤ j → 1 ≤ k
    → {rows : ℕ} {a : List ℕ} {b : List Float} {c : List ℕ} {s' : Satellite} {n m : ℕ} {a' : List ℕ} {b' : List Float} {c' : List ℕ}
    → Listed s (Many (t ∷ []) i j k) rows a b c s' n m a' b' c' → Listed s (One t) rows a b c s' n m a' b' c'
one_alike s t i j k hi hj hk {rows} {a} {b} {c} p =
    let e : list_times (t ∷ []) i j k ≡ t ∷ [] = ap (λ z. cond z (t ∷ []) []) (eq-eqb (list_refusal 1 i j k) 0 (one_room i j k hi hj hk)) in
    record {
      satellite = p.satellite ∙ ap (satellite_from s) e;
      strides = p.strides ∙ ap (strides_from s) e ∙ plus_none (answered s t).strides.0;
      added = p.added ∙ ap length e;
      refusals = p.refusals ∙ ap (λ l. take rows a ++ over (refusals_of (rows_from s l)) (drop rows a)) e;
      states = p.states ∙ ap (λ l. take (6 * rows) b ++ over (states_of (rows_from s l)) (drop (6 * rows) b)) e;
      rounds = p.rounds ∙ ap (λ l. take rows c ++ over (rounds_of (rows_from s l)) (drop rows c)) e;
    }
