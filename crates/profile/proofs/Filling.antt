-- The rows of a list, written one after the other at the front of the rooms that are lent.
use mathlib.Core.Path.{◌≡◌, refl, sym, ap, ◌∙◌, subst}
use mathlib.Core.Bool.{Bool, true, false, ◌||◌}
use mathlib.Core.List.{List, [], ◌∷◌, ◌++◌}
use Prim.Native.Nat.{ℕ, suc, ◌+◌, ◌*◌, ◌≤◌, ◌<◌}
use native.Mathlib.Numerals.{add-one}
use native.Mathlib.Omega.{arith}
use lib.ListN.{length, take, set, get_or}
use lib.Seq.{sets, take-suc, length-take-le}
use lib.IntN.{ℤ}
use lib.Ieee.{Float}
use borrow.Author.Tests.{ne_eqb, eq-eqb}
use Rattle.satellite.specs.declared.NearEarth.{NearEarth}
use Rattle.sgp4.specs.declared.Row.{Row}
use Rattle.requests.specs.Lists.{list_refusal, list_times, refusals_of, states_of, rounds_of, state_of, over}
use Rattle.requests.proofs.Filling.{Written, written_more, all_times}
use Rattle.profile.specs.Request.{taken}
use Rattle.profile.specs.Lists.{any_taken}
use Rattle.profile.specs.Rows.{near_row, near_rows, Filled, RowsPost}

-- ── one time more at the end of a list ──

rows_snoc : (n : NearEarth) (ts : List ℤ) (t : ℤ) → near_rows n (ts ++ (t ∷ [])) ≡ near_rows n ts ++ (near_row n t ∷ [])
rows_snoc n [] t = refl
rows_snoc n (u ∷ ts) t = ap (λ l. near_row n u ∷ l) (rows_snoc n ts t)

length_rows : (n : NearEarth) (ts : List ℤ) → length (near_rows n ts) ≡ length ts
length_rows n [] = refl
length_rows n (t ∷ ts) = ap suc (length_rows n ts)

or_false : (b : Bool) → b || false ≡ b
or_false true = refl
or_false false = refl

or_assoc : (a b c : Bool) → a || (b || c) ≡ (a || b) || c
or_assoc true b c = refl
or_assoc false b c = refl

any_snoc : (ts : List ℤ) (t : ℤ) → any_taken (ts ++ (t ∷ [])) ≡ any_taken ts || taken t
any_snoc [] t = or_false (taken t)
any_snoc (u ∷ ts) t = ap (λ b. taken u || b) (any_snoc ts t) ∙ or_assoc (taken u) (any_taken ts) (taken t)

-- ── the loop's invariant: the rows of the first i times are written ──

pub record Filling (n : NearEarth) (ts : List ℤ) (a₀ : List ℕ) (b₀ : List Float) (c₀ : List ℕ) (a : List ℕ) (b : List Float) (c : List ℕ) (any : Bool) (i : ℕ) : Type 0 where
  pub upto : i ≤ length ts
  pub most : length ts ≤ 1024
  pub room_a : length ts ≤ length a₀
  pub room_b : 6 * length ts ≤ length b₀
  pub room_c : length ts ≤ length c₀
  pub len_a : length a ≡ length a₀
  pub len_b : length b ≡ length b₀
  pub len_c : length c ≡ length c₀
  pub any_taken_lem : any ≡ any_taken (take i ts)
  pub written : Written (near_rows n (take i ts)) (length ts) a₀ b₀ c₀ a b c

pub filling_none : (n : NearEarth) (ts : List ℤ) (a : List ℕ) (b : List Float) (c : List ℕ) → length ts ≤ 1024 → length ts ≤ length a → 6 * length ts ≤ length b → length ts ≤ length c
    → Filling n ts a b c a b c false 0
filling_none n ts a b c hm ha hb hc = record {
  upto = omega arith;
  most = hm;
  room_a = ha;
  room_b = hb;
  room_c = hc;
  len_a = refl;
  len_b = refl;
  len_c = refl;
  any_taken_lem = refl;
  written = record { room_a = ha; room_b = hb; room_c = hc; len_a = refl; len_b = refl; len_c = refl; refusals = refl; states = refl; rounds = refl };
}

-- one row more
pub filling_put : (n : NearEarth) (ts : List ℤ) (a₀ : List ℕ) (b₀ : List Float) (c₀ : List ℕ) (a : List ℕ) (b : List Float) (c : List ℕ) (any : Bool) (i : ℕ) (d u : ℤ) (a' : List ℕ) (b' : List Float) (c' : List ℕ) (r : Row) (x : Bool)
    → Filling n ts a₀ b₀ c₀ a b c any i → i < length ts → r ≡ near_row n u → x ≡ taken u → u ≡ get_or ts i d
    → (a' ≡ set a i r.refusal) × ((b' ≡ sets b (6 * i) (state_of r)) × (c' ≡ set c i r.rounds))
    → Filling n ts a₀ b₀ c₀ a' b' c' (any || x) (i + 1)
filling_put n ts a₀ b₀ c₀ a b c any i d u a' b' c' r x f h hr hx hu e =
    let xs = take i ts in
    let t = get_or ts i d in
    let one : take (i + 1) ts ≡ xs ++ (t ∷ []) = ap (λ k. take k ts) (add-one i) ∙ take-suc ts i d h in
    let rows : near_rows n (take (i + 1) ts) ≡ near_rows n xs ++ (r ∷ []) =
    ap (near_rows n) one ∙ rows_snoc n xs t ∙ ap (λ z. near_rows n xs ++ (z ∷ [])) (sym (hr ∙ ap (near_row n) hu)) in
    let long : length (near_rows n xs) ≡ i = length_rows n xs ∙ length-take-le i ts f.upto in
    let w : Written (near_rows n xs ++ (r ∷ [])) (length ts) a₀ b₀ c₀ (set a i r.refusal) b' (set c i r.rounds) =
    written_more (near_rows n xs) r (length ts) i a₀ b₀ c₀ a b c b' f.written long h e.1.0 in
    let v : Written (near_rows n (take (i + 1) ts)) (length ts) a₀ b₀ c₀ a' b' c' =
    subst (λ (z : List Row). Written z (length ts) a₀ b₀ c₀ a' b' c') (sym rows)
    (subst (λ (z : List ℕ). Written (near_rows n xs ++ (r ∷ [])) (length ts) a₀ b₀ c₀ z b' c') (sym e.0)
    (subst (λ (z : List ℕ). Written (near_rows n xs ++ (r ∷ [])) (length ts) a₀ b₀ c₀ (set a i r.refusal) b' z) (sym e.1.1) w)) in
    record {
      upto = omega arith;
      most = f.most;
      room_a = f.room_a;
      room_b = f.room_b;
      room_c = f.room_c;
      len_a = v.len_a;
      len_b = v.len_b;
      len_c = v.len_c;
      any_taken_lem = ap (λ z. z || x) f.any_taken_lem ∙ ap (λ z. any_taken xs || z) (hx ∙ ap taken hu) ∙ sym (ap any_taken one ∙ any_snoc xs t);
      written = v;
    }

-- at the end all are
pub filling_done : {n : NearEarth} {ts : List ℤ} {a₀ : List ℕ} {b₀ : List Float} {c₀ : List ℕ} {a : List ℕ} {b : List Float} {c : List ℕ} {any : Bool} {i : ℕ}
    → Filling n ts a₀ b₀ c₀ a b c any i → length ts ≤ i → Filled n ts a₀ b₀ c₀ any a b c
filling_done {n} {ts} {a₀} {b₀} {c₀} {a} {b} {c} {any} {i} f h =
    let e : take i ts ≡ ts = all_times ts i f.upto h in
    record {
      any_taken_lem = f.any_taken_lem ∙ ap any_taken e;
      refusals = f.written.refusals ∙ ap (λ l. over (refusals_of (near_rows n l)) a₀) e;
      states = f.written.states ∙ ap (λ l. over (states_of (near_rows n l)) b₀) e;
      rounds = f.written.rounds ∙ ap (λ l. over (rounds_of (near_rows n l)) c₀) e;
    }

-- ── a list refused, and a list answered ──

module _ (n : NearEarth) (ts : List ℤ) (a : List ℕ) (b : List Float) (c : List ℕ) (k : ℕ) (e : k ≡ list_refusal (length ts) (length a) (length b) (length c)) where
  pub list_refused : (k ≡ 0 → ⊥) → RowsPost n ts a b c (record { refusal = k; taken = false }) a b c
  list_refused d =
      let none : list_times ts (length a) (length b) (length c) ≡ [] = rw (ne_eqb (list_refusal (length ts) (length a) (length b) (length c)) 0 (λ z. d (e ∙ z))) in
      record { answer = rw (none, e); refusals = rw none; states = rw none; rounds = rw none }

  pub list_answered : (any : Bool) (a' : List ℕ) (b' : List Float) (c' : List ℕ) → k ≡ 0 → Filled n ts a b c any a' b' c' → RowsPost n ts a b c (record { refusal = k; taken = any }) a' b' c'
  list_answered any a' b' c' z f =
      let all : list_times ts (length a) (length b) (length c) ≡ ts = rw (eq-eqb (list_refusal (length ts) (length a) (length b) (length c)) 0 (sym e ∙ z)) in
      record {
        answer = rw (all, e) (ap (λ x. record { refusal = list_refusal (length ts) (length a) (length b) (length c); taken = x }) f.any_taken_lem);
        refusals = rw all f.refusals;
        states = rw all f.states;
        rounds = rw all f.rounds;
      }
