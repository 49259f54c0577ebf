-- The rows of a list, written one after the other at the front of the rooms that are lent.
use mathlib.Core.Path.{◌≡◌, refl, sym, ap, ◌∙◌, subst}
use mathlib.Core.Bool.{Bool, true, false, cond}
use mathlib.Core.List.{List, [], ◌∷◌, ◌++◌, append_assoc}
use Prim.Native.Nat.{ℕ, suc, ◌+◌, ◌*◌, ◌/◌, ◌≤◌, ◌<◌}
use native.Mathlib.Numerals.{add-one}
use native.Mathlib.Omega.{arith}
use lib.ListN.{length, take, drop, set, get_or, length-append, length-drop, length-set}
use lib.Seq.{drop-cons, append_snoc, set-append_seam, sets, take-suc, length-take-le, take-length, length-sets}
use lib.Dec.{leb}
use borrow.Author.Tests.{leb-true}
use lib.IntN.{ℤ, nat_abs}
use lib.Ieee.{Float}
use Rattle.satellite.specs.declared.Model.{Model}
use Rattle.resonance.specs.declared.place.Place.{Place}
use Rattle.resonance.specs.Place.{advance_of, rise}
use Rattle.resonance.specs.Time.{in_range, whole_strides, resonant}
use Rattle.sgp4.specs.declared.Row.{Row}
use Rattle.sgp4.specs.Sgp4.{integrator_of}
use Rattle.opening.specs.declared.opening.Satellite.{Satellite}
use Rattle.requests.specs.declared.Asked.{Asked}
use Rattle.elementary.specs.Two.{Two}
use Rattle.requests.specs.declared.Answered.{Answered}
use Rattle.requests.specs.Request.{reached, choose, inside, outside, asked, answered}
use Rattle.requests.specs.Two.{asked_two}
use Rattle.requests.specs.Lists.{holding, rows_from, strides_from, satellite_from, refusals_of, states_of, rounds_of, state_of, over, Done}

-- ── one element, and a run of them, more at the front of a room ──

module _ {A : Type 0} where
  over_more : (xs old : List A) (v : A) → length xs < length old → set (over xs old) (length xs) v ≡ over (xs ++ (v ∷ [])) old
  over_more xs old v h =
      rw (drop-cons old (length xs) v h, set-append_seam)
      (sym (append_snoc xs v (drop (suc (length xs)) old)) ∙ ap (λ n. (xs ++ (v ∷ [])) ++ drop n old) (sym (length-append xs (v ∷ []) ∙ add-one (length xs))))

  pub over_set : (xs old : List A) (v : A) (n : ℕ) → length xs ≡ n → n < length old → set (over xs old) n v ≡ over (xs ++ (v ∷ [])) old
  over_set xs old v n e h = ap (λ k. set (over xs old) k v) (sym e) ∙ over_more xs old v (omega arith)

  pub over_sets : (vs xs old : List A) (n : ℕ) → length xs ≡ n → n + length vs ≤ length old → sets (over xs old) n vs ≡ over (xs ++ vs) old
  over_sets [] xs old n e h = ap (λ l. over l old) (sym (append_nil xs))
    where
      append_nil : (xs : List A) → xs ++ [] ≡ xs
      append_nil [] = refl
      append_nil (x ∷ xs) = ap (λ l. x ∷ l) (append_nil xs)
  over_sets (v ∷ vs) xs old n e h =
      ap (λ l. sets l (suc n) vs) (over_set xs old v n e (omega arith))
      ∙ over_sets vs (xs ++ (v ∷ [])) old (suc n) (length-append xs (v ∷ []) ∙ omega arith) (omega arith)
      ∙ ap (λ l. over l old) (append_assoc xs (v ∷ []) vs)

  pub length_over : (xs old : List A) → length xs ≤ length old → length (over xs old) ≡ length old
  length_over xs old h = omega (arith, length-append xs (drop (length xs) old), length-drop (length xs) old)

-- ── one time more at the end of a list ──

satellite_snoc : (s : Satellite) (ts : List ℤ) (t : ℤ) → satellite_from s (ts ++ (t ∷ [])) ≡ (answered (satellite_from s ts) t).satellite
satellite_snoc s [] t = refl
satellite_snoc s (u ∷ ts) t = satellite_snoc (answered s u).satellite ts t

strides_snoc : (s : Satellite) (ts : List ℤ) (t : ℤ) → strides_from s (ts ++ (t ∷ [])) ≡ strides_from s ts + (answered (satellite_from s ts) t).strides.0
strides_snoc s [] t = omega arith
strides_snoc s (u ∷ ts) t = omega (arith, strides_snoc (answered s u).satellite ts t)

rows_snoc : (s : Satellite) (ts : List ℤ) (t : ℤ) → rows_from s (ts ++ (t ∷ [])) ≡ rows_from s ts ++ ((answered (satellite_from s ts) t).row ∷ [])
rows_snoc s [] t = refl
rows_snoc s (u ∷ ts) t = ap (λ l. (answered s u).row ∷ l) (rows_snoc (answered s u).satellite ts t)

refusals_snoc : (rs : List Row) (r : Row) → refusals_of (rs ++ (r ∷ [])) ≡ refusals_of rs ++ (r.refusal ∷ [])
refusals_snoc [] r = refl
refusals_snoc (q ∷ rs) r = ap (λ l. q.refusal ∷ l) (refusals_snoc rs r)

rounds_snoc : (rs : List Row) (r : Row) → rounds_of (rs ++ (r ∷ [])) ≡ rounds_of rs ++ (r.rounds ∷ [])
rounds_snoc [] r = refl
rounds_snoc (q ∷ rs) r = ap (λ l. q.rounds ∷ l) (rounds_snoc rs r)

states_snoc : (rs : List Row) (r : Row) → states_of (rs ++ (r ∷ [])) ≡ states_of rs ++ state_of r
states_snoc [] r = refl
states_snoc (q ∷ rs) r = ap (λ l. state_of q ++ l) (states_snoc rs r)

pub length_rows : (s : Satellite) (ts : List ℤ) → length (rows_from s ts) ≡ length ts
length_rows s [] = refl
length_rows s (t ∷ ts) = ap suc (length_rows (answered s t).satellite ts)

pub length_refusals : (rs : List Row) → length (refusals_of rs) ≡ length rs
length_refusals [] = refl
length_refusals (r ∷ rs) = ap suc (length_refusals rs)

pub length_rounds : (rs : List Row) → length (rounds_of rs) ≡ length rs
length_rounds [] = refl
length_rounds (r ∷ rs) = ap suc (length_rounds rs)

pub length_states : (rs : List Row) → length (states_of rs) ≡ 6 * length rs
length_states [] = refl
length_states (r ∷ rs) = omega (arith, length_states rs)

-- ── rows in their rooms ──

-- the rows rs at the front of the rooms a₀, b₀ and c₀, which have places for n
pub record Written (rs : List Row) (n : ℕ) (a₀ : List ℕ) (b₀ : List Float) (c₀ : List ℕ) (a : List ℕ) (b : List Float) (c : List ℕ) : Type 0 where
  pub room_a : n ≤ length a₀
  pub room_b : 6 * n ≤ length b₀
  pub room_c : n ≤ length c₀
  pub len_a : length a ≡ length a₀
  pub len_b : length b ≡ length b₀
  pub len_c : length c ≡ length c₀
  pub refusals : a ≡ over (refusals_of rs) a₀
  pub states : b ≡ over (states_of rs) b₀
  pub rounds : c ≡ over (rounds_of rs) c₀

-- one row more
pub written_more : (rs : List Row) (r : Row) (n i : ℕ) (a₀ : List ℕ) (b₀ : List Float) (c₀ : List ℕ) (a : List ℕ) (b : List Float) (c : List ℕ) (b' : List Float)
    → Written rs n a₀ b₀ c₀ a b c → length rs ≡ i → i < n → b' ≡ sets b (6 * i) (state_of r)
    → Written (rs ++ (r ∷ [])) n a₀ b₀ c₀ (set a i r.refusal) b' (set c i r.rounds)
written_more rs r n i a₀ b₀ c₀ a b c b' w long h hb = record {
  room_a = w.room_a;
  room_b = w.room_b;
  room_c = w.room_c;
  len_a = length-set a i r.refusal ∙ w.len_a;
  len_b = ap length hb ∙ length-sets b (6 * i) (state_of r) ∙ w.len_b;
  len_c = length-set c i r.rounds ∙ w.len_c;
  refusals =
      ap (λ l. set l i r.refusal) w.refusals
      ∙ over_set (refusals_of rs) a₀ r.refusal i (length_refusals rs ∙ long) (omega (arith, w.room_a))
      ∙ ap (λ l. over l a₀) (sym (refusals_snoc rs r));
  states =
      hb
      ∙ ap (λ l. sets l (6 * i) (state_of r)) w.states
      ∙ over_sets (state_of r) (states_of rs) b₀ (6 * i) (omega (arith, length_states rs, long)) (omega (arith, w.room_b))
      ∙ ap (λ l. over l b₀) (sym (states_snoc rs r));
  rounds =
      ap (λ l. set l i r.rounds) w.rounds
      ∙ over_set (rounds_of rs) c₀ r.rounds i (length_rounds rs ∙ long) (omega (arith, w.room_c))
      ∙ ap (λ l. over l c₀) (sym (rounds_snoc rs r));
}

-- ── a time takes at most 7,304 strides ──

whole_by : (b : Bool) (x : ℕ) → x ≤ 315532800000000 → cond b (x / 43200000000) 0 ≤ 7304
whole_by true x h = omega arith
whole_by false x h = omega arith

-- ── a row's six numbers, stored one by one ──

pub puts : (l : List Float) (n : ℕ) (r : Row)
    → set (set (set (set (set (set l n r.x) (n + 1) r.y) (n + 2) r.z) (n + 3) r.vx) (n + 4) r.vy) (n + 5) r.vz ≡ sets l n (state_of r)
puts l n r =
    let e1 : n + 1 ≡ suc n = omega arith in
    let e2 : n + 2 ≡ suc (suc n) = omega arith in
    let e3 : n + 3 ≡ suc (suc (suc n)) = omega arith in
    let e4 : n + 4 ≡ suc (suc (suc (suc n))) = omega arith in
    let e5 : n + 5 ≡ suc (suc (suc (suc (suc n)))) = omega arith in
    rw (e1, e2, e3, e4, e5)

few_by : (k : Model) (p : Place) (t : ℤ) (b : Bool) → leb (nat_abs t) 315532800000000 ≡ b → (choose b (inside k p t) (outside p)).strides.0 ≤ 7304
unfolding reached advance_of rise whole_strides
few_by k p t true h = omega (arith, whole_by (resonant (integrator_of k).resonance) (nat_abs t) (leb-true (nat_abs t) 315532800000000 h))
few_by k p t false h = omega arith

few : (k : Model) (p : Place) (t : ℤ) → (asked k p t).strides.0 ≤ 7304
unfolding asked in_range
few k p t = few_by k p t (leb (nat_abs t) 315532800000000) refl

pub few_of : (r : Asked) (k : Model) (p : Place) (t : ℤ) → r ≡ asked k p t → r.strides.0 ≤ 7304
few_of r k p t e = omega (arith, few k p t, ap (λ z. z.strides.0) e)

-- ── the loop's invariant: the rows of the first i times are written ──

pub record Filling (ts : List ℤ) (a₀ : List ℕ) (b₀ : List Float) (c₀ : List ℕ) (k : Model) (p₀ : Place) (a : List ℕ) (b : List Float) (c : List ℕ) (p : Place) (n i : ℕ) : Type 0 where
  pub upto : i ≤ length ts
  pub most : length ts ≤ 1024
  pub room_a : length ts ≤ length a₀
  pub room_b : 6 * length ts ≤ length b₀
  pub room_c : length ts ≤ length c₀
  pub len_a : length a ≡ length a₀
  pub len_b : length b ≡ length b₀
  pub len_c : length c ≡ length c₀
  pub held : holding k p ≡ satellite_from (holding k p₀) (take i ts)
  pub strides : n ≡ strides_from (holding k p₀) (take i ts)
  pub few : n ≤ 7304 * i
  pub refusals : a ≡ over (refusals_of (rows_from (holding k p₀) (take i ts))) a₀
  pub states : b ≡ over (states_of (rows_from (holding k p₀) (take i ts))) b₀
  pub rounds : c ≡ over (rounds_of (rows_from (holding k p₀) (take i ts))) c₀

pub filling_none : (ts : List ℤ) (a : List ℕ) (b : List Float) (c : List ℕ) (k : Model) (p : Place) → length ts ≤ 1024 → length ts ≤ length a → 6 * length ts ≤ length b → length ts ≤ length c
    → Filling ts a b c k p a b c p 0 0
filling_none ts a b c k p hm ha hb hc = record {
  upto = omega arith;
  most = hm;
  room_a = ha;
  room_b = hb;
  room_c = hc;
  len_a = refl;
  len_b = refl;
  len_c = refl;
  held = refl;
  strides = refl;
  few = omega arith;
  refusals = refl;
  states = refl;
  rounds = refl;
}

-- an answer with the model beside it
abbrev whole : Model → Asked → Answered
whole k r = record { row = r.row; strides = r.strides; satellite = holding k r.place }

pub filling_more : (ts : List ℤ) (a₀ : List ℕ) (b₀ : List Float) (c₀ : List ℕ) (k : Model) (p₀ : Place) (a : List ℕ) (b : List Float) (c : List ℕ) (p : Place) (n i : ℕ) (d u : ℤ) (b' : List Float) (r : Asked)
    → Filling ts a₀ b₀ c₀ k p₀ a b c p n i → i < length ts → r ≡ asked k p u → u ≡ get_or ts i d → b' ≡ sets b (6 * i) (state_of r.row)
    → Filling ts a₀ b₀ c₀ k p₀ (set a i r.row.refusal) b' (set c i r.row.rounds) r.place (n + r.strides.0) (i + 1)
filling_more ts a₀ b₀ c₀ k p₀ a b c p n i d u b' r f h hr hu hb =
    let s₀ = holding k p₀ in
    let xs = take i ts in
    let t = get_or ts i d in
    let one : take (i + 1) ts ≡ xs ++ (t ∷ []) = ap (λ k. take k ts) (add-one i) ∙ take-suc ts i d h in
    let same : whole k r ≡ answered (satellite_from s₀ xs) t = ap (whole k) (hr ∙ ap (asked k p) hu) ∙ ap (λ z. answered z t) f.held in
    let rows : rows_from s₀ (take (i + 1) ts) ≡ rows_from s₀ xs ++ (r.row ∷ []) =
    ap (rows_from s₀) one ∙ rows_snoc s₀ xs t ∙ ap (λ z. rows_from s₀ xs ++ (z.row ∷ [])) (sym same) in
    let long : length (rows_from s₀ xs) ≡ i = length_rows s₀ xs ∙ length-take-le i ts f.upto in
    let w = written_more (rows_from s₀ xs) r.row (length ts) i a₀ b₀ c₀ a b c b'
    (record {
      room_a = f.room_a;
      room_b = f.room_b;
      room_c = f.room_c;
      len_a = f.len_a;
      len_b = f.len_b;
      len_c = f.len_c;
      refusals = f.refusals;
      states = f.states;
      rounds = f.rounds;
    })
    long h hb in
    record {
      upto = omega arith;
      most = f.most;
      room_a = f.room_a;
      room_b = f.room_b;
      room_c = f.room_c;
      len_a = w.len_a;
      len_b = w.len_b;
      len_c = w.len_c;
      held = ap (λ z. z.satellite) same ∙ sym (ap (satellite_from s₀) one ∙ satellite_snoc s₀ xs t);
      strides = ap (λ z. n + z.strides.0) same ∙ ap (λ z. z + (answered (satellite_from s₀ xs) t).strides.0) f.strides ∙ sym (ap (strides_from s₀) one ∙ strides_snoc s₀ xs t);
      few = omega (arith, f.few, few_of r k p u hr);
      refusals = w.refusals ∙ ap (λ l. over (refusals_of l) a₀) (sym rows);
      states = w.states ∙ ap (λ l. over (states_of l) b₀) (sym rows);
      rounds = w.rounds ∙ ap (λ l. over (rounds_of l) c₀) (sym rows);
    }

-- the same for a row that is put into the rooms
pub filling_put : (ts : List ℤ) (a₀ : List ℕ) (b₀ : List Float) (c₀ : List ℕ) (k : Model) (p₀ : Place) (a : List ℕ) (b : List Float) (c : List ℕ) (p : Place) (n i : ℕ) (d u : ℤ) (a' : List ℕ) (b' : List Float) (c' : List ℕ) (r : Asked)
    → Filling ts a₀ b₀ c₀ k p₀ a b c p n i → i < length ts → r ≡ asked k p u → u ≡ get_or ts i d
    → (a' ≡ set a i r.row.refusal) × ((b' ≡ sets b (6 * i) (state_of r.row)) × (c' ≡ set c i r.row.rounds))
    → Filling ts a₀ b₀ c₀ k p₀ a' b' c' r.place (n + r.strides.0) (i + 1)
filling_put ts a₀ b₀ c₀ k p₀ a b c p n i d u a' b' c' r f h hr hu e =
    subst (λ (z : List ℕ). Filling ts a₀ b₀ c₀ k p₀ z b' c' r.place (n + r.strides.0) (i + 1)) (sym e.0)
    (subst (λ (z : List ℕ). Filling ts a₀ b₀ c₀ k p₀ (set a i r.row.refusal) b' z r.place (n + r.strides.0) (i + 1)) (sym e.1.1)
    (filling_more ts a₀ b₀ c₀ k p₀ a b c p n i d u b' r f h hr hu e.1.0))

-- the answers for two times
pub first_of : (x : Two Asked) (k : Model) (p : Place) (t u : ℤ) → x ≡ asked_two k p t u → x.first ≡ asked k p t
first_of x k p t u e = ap (λ (z : Two Asked). z.first) e

pub second_of : (x : Two Asked) (k : Model) (p : Place) (t u : ℤ) → x ≡ asked_two k p t u → x.second ≡ asked k x.first.place u
second_of x k p t u e = ap (λ (z : Two Asked). z.second) e ∙ ap (λ (z : Asked). asked k z.place u) (sym (first_of x k p t u e))

-- two rows more
pub filling_two : (ts : List ℤ) (a₀ : List ℕ) (b₀ : List Float) (c₀ : List ℕ) (k : Model) (p₀ : Place) (a : List ℕ) (b : List Float) (c : List ℕ) (p : Place) (n i : ℕ) (d t u : ℤ)
    (a'' : List ℕ) (b'' : List Float) (c'' : List ℕ) (x : Two Asked)
    → Filling ts a₀ b₀ c₀ k p₀ a b c p n i → i + 1 < length ts → x ≡ asked_two k p t u → t ≡ get_or ts i d → u ≡ get_or ts (i + 1) d
    → (a'' ≡ set (set a i x.first.row.refusal) (i + 1) x.second.row.refusal)
    × ((b'' ≡ sets (sets b (6 * i) (state_of x.first.row)) (6 * (i + 1)) (state_of x.second.row)) × (c'' ≡ set (set c i x.first.row.rounds) (i + 1) x.second.row.rounds))
    → Filling ts a₀ b₀ c₀ k p₀ a'' b'' c'' x.second.place (n + x.first.strides.0 + x.second.strides.0) (i + 2)
filling_two ts a₀ b₀ c₀ k p₀ a b c p n i d t u a'' b'' c'' x f h hx ht hu g =
    let a' = set a i x.first.row.refusal in
    let b' = sets b (6 * i) (state_of x.first.row) in
    let c' = set c i x.first.row.rounds in
    let one = filling_put ts a₀ b₀ c₀ k p₀ a b c p n i d t a' b' c' x.first f (omega arith) (first_of x k p t u hx) ht (refl, (refl, refl)) in
    let two = filling_put ts a₀ b₀ c₀ k p₀ a' b' c' x.first.place (n + x.first.strides.0) (i + 1) d u a'' b'' c'' x.second one h (second_of x k p t u hx) hu g in
    let j : i + 1 + 1 ≡ i + 2 = omega arith in
    subst (λ (z : ℕ). Filling ts a₀ b₀ c₀ k p₀ a'' b'' c'' x.second.place (n + x.first.strides.0 + x.second.strides.0) z) j two

-- at the end all are
pub all_times : (ts : List ℤ) (i : ℕ) → i ≤ length ts → length ts ≤ i → take i ts ≡ ts
all_times ts i h k = let e : i ≡ length ts = omega arith in ap (λ j. take j ts) e ∙ take-length ts

pub filling_done : {ts : List ℤ} {a₀ : List ℕ} {b₀ : List Float} {c₀ : List ℕ} {k : Model} {p₀ : Place} {a : List ℕ} {b : List Float} {c : List ℕ} {p : Place} {n i : ℕ}
    → Filling ts a₀ b₀ c₀ k p₀ a b c p n i → length ts ≤ i → Done ts a₀ b₀ c₀ k p₀ a b c p n
filling_done {ts} {a₀} {b₀} {c₀} {k} {p₀} {a} {b} {c} {p} {n} {i} f h =
    let e : take i ts ≡ ts = all_times ts i f.upto h in
    record {
      strides = f.strides ∙ ap (strides_from (holding k p₀)) e;
      held = f.held ∙ ap (satellite_from (holding k p₀)) e;
      refusals = f.refusals ∙ ap (λ l. over (refusals_of (rows_from (holding k p₀) l)) a₀) e;
      states = f.states ∙ ap (λ l. over (states_of (rows_from (holding k p₀) l)) b₀) e;
      rounds = f.rounds ∙ ap (λ l. over (rounds_of (rows_from (holding k p₀) l)) c₀) e;
    }

-- ── the same index, and the same positions, otherwise written ──

pub filling_to : {ts : List ℤ} {a₀ : List ℕ} {b₀ : List Float} {c₀ : List ℕ} {k : Model} {p₀ : Place} {a : List ℕ} {b : List Float} {c : List ℕ} {p : Place} {n i j : ℕ}
    → Filling ts a₀ b₀ c₀ k p₀ a b c p n i → i ≡ j → Filling ts a₀ b₀ c₀ k p₀ a b c p n j
filling_to {ts} {a₀} {b₀} {c₀} {k} {p₀} {a} {b} {c} {p} {n} f e = subst (λ (z : ℕ). Filling ts a₀ b₀ c₀ k p₀ a b c p n z) e f

pub filling_at : {ts : List ℤ} {a₀ : List ℕ} {b₀ : List Float} {c₀ : List ℕ} {k : Model} {p₀ : Place} {a : List ℕ} {b : List Float} {c : List ℕ} {p : Place} {n i : ℕ} {q : Place}
    → Filling ts a₀ b₀ c₀ k p₀ a b c p n i → q ≡ p → Filling ts a₀ b₀ c₀ k p₀ a b c q n i
filling_at {ts} {a₀} {b₀} {c₀} {k} {p₀} {a} {b} {c} {p} {n} {i} {q} f e = subst (λ (z : Place). Filling ts a₀ b₀ c₀ k p₀ a b c z n i) (sym e) f

pub done_from : {ts : List ℤ} {a₀ : List ℕ} {b₀ : List Float} {c₀ : List ℕ} {k : Model} {p₀ q₀ : Place} {a : List ℕ} {b : List Float} {c : List ℕ} {p : Place} {n : ℕ}
    → p₀ ≡ q₀ → Done ts a₀ b₀ c₀ k p₀ a b c p n → Done ts a₀ b₀ c₀ k q₀ a b c p n
done_from {ts} {a₀} {b₀} {c₀} {k} {p₀} {q₀} {a} {b} {c} {p} {n} e d = subst (λ (z : Place). Done ts a₀ b₀ c₀ k z a b c p n) e d
