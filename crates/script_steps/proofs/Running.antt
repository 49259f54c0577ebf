-- A script's requests, one after the other: the invariant of the loop over them, and what it leaves.
use mathlib.Core.Path.{◌≡◌, refl, sym, ap, ◌∙◌, subst}
use mathlib.Core.List.{List, [], ◌∷◌, ◌++◌, append_assoc, append-nil, map}
use Prim.Native.Nat.{ℕ, zero, suc, ◌+◌, ◌-◌, ◌*◌, ◌/◌, ◌≤◌, ◌<◌}
use native.Mathlib.Numerals.{add-one}
use native.Mathlib.Omega.{arith}
use lib.Dec.{eqb}
use mathlib.Core.Bool.{Bool, true, false, cond}
use lib.ListN.{length, length-take, take, drop, set, get_or, length-append, length-drop, length-set}
use lib.Seq.{length-take-le, drop-drop, drop-cons, drop-length, append_snoc, take-append_seam, drop-append_seam}
use lib.IntN.{ℤ, pos}
use lib.Ieee.{Float}
use Rattle.sgp4.specs.declared.Row.{Row}
use Rattle.opening.specs.declared.opening.Satellite.{Satellite}
use Rattle.requests.specs.Lists.{list_refusal, list_times, rows_from, satellite_from, state_of, states_of, refusals_of, rounds_of, over}
use Rattle.runs.specs.Runs.{Window}
use Rattle.sequences.specs.Demand3.{Request, Many, Outcome}
use Rattle.requests.proofs.Filling.{length_rows, length_refusals, length_rounds, length_states, over_set, length_over}
use Rattle.script_room.specs.Room.{taken, needed, roomy, due}
use Rattle.script_steps.specs.Steps.{call_at, request_of, written, laid, script, laid_all, rows_of, windows_of, firsts_of, lasts_of, strides_of, found_of, Listed, Called, Left}
use Rattle.script_room.proofs.Room.{next_roomy}
use Rattle.script_steps.proofs.Rooms.{rows_bound, one_alike}
use Rattle.script_steps.proofs.Calls.{windows_bound}

-- ── the next request ──

-- the request r put to s after `rows` rows and `seen` windows: what it gives back, the rows and windows that it adds, and the rooms
pub record Step (s : Satellite) (r : Request) (rows seen : ℕ) (a : List ℕ) (b : List Float) (c f l : List ℕ) (s' : Satellite) (n k w : ℕ) (a' : List ℕ) (b' : List Float) (c' f' l' : List ℕ) : Type 0 where
  pub satellite : s' ≡ (laid s r).satellite
  pub strides : n ≡ (laid s r).strides
  pub added : k ≡ length (written r)
  pub found : w ≡ length (laid s r).windows
  pub refusals : a' ≡ take rows a ++ over (refusals_of (laid s r).rows) (drop rows a)
  pub states : b' ≡ take (6 * rows) b ++ over (states_of (laid s r).rows) (drop (6 * rows) b)
  pub rounds : c' ≡ take rows c ++ over (rounds_of (laid s r).rows) (drop rows c)
  pub firsts : f' ≡ take seen f ++ over (firsts_of (laid s r).windows) (drop seen f)
  pub lasts : l' ≡ take seen l ++ over (lasts_of (laid s r).windows) (drop seen l)

listed_is : {s : Satellite} {r r' : Request} {rows : ℕ} {a : List ℕ} {b : List Float} {c : List ℕ} {s' : Satellite} {n k : ℕ} {a' : List ℕ} {b' : List Float} {c' : List ℕ}
    → r ≡ r' → Listed s r rows a b c s' n k a' b' c' → Listed s r' rows a b c s' n k a' b' c'
listed_is {s} {r} {r'} {rows} {a} {b} {c} {s'} {n} {k} {a'} {b'} {c'} e h = subst (λ z. Listed s z rows a b c s' n k a' b' c') e h

step_is : {s : Satellite} {r r' : Request} {rows seen : ℕ} {a : List ℕ} {b : List Float} {c f l : List ℕ} {s' : Satellite} {n k w : ℕ} {a' : List ℕ} {b' : List Float} {c' f' l' : List ℕ}
    → r ≡ r' → Step s r rows seen a b c f l s' n k w a' b' c' f' l' → Step s r' rows seen a b c f l s' n k w a' b' c' f' l'
step_is {s} {r} {r'} {rows} {seen} {a} {b} {c} {f} {l} {s'} {n} {k} {w} {a'} {b'} {c'} {f'} {l'} e h = subst (λ z. Step s z rows seen a b c f l s' n k w a' b' c' f' l') e h

first : (l : List ℤ) → 1 ≤ length l → take 1 l ≡ get_or l 0 (pos 0) ∷ []
first [] h = absurd (omega arith)
first (t ∷ l) h = refl

no_times : (i j k : ℕ) → list_times [] i j k ≡ []
no_times i j k = none (eqb (list_refusal 0 i j k) 0)
  where
    none : (b : Bool) → ◌≡◌ {A = List ℤ} (cond b [] []) []
    none true = refl
    none false = refl

-- its times put as one list, in rooms that have what is due, and then its call
asked_of : (n z m w at : ℕ) (ts : List ℤ) (ps : List Float) (qs : List ℕ) (i j k f₁ l₁ : ℕ) → m ≡ taken n → w ≡ m → at + m ≤ length ts → due n ≤ i → 6 * due n ≤ j → due n ≤ k
    → {s : Satellite} {rows seen : ℕ} {a : List ℕ} {b : List Float} {c f l : List ℕ} {s₁ : Satellite} {m₁ q : ℕ} {a' : List ℕ} {b' : List Float} {c' : List ℕ} {s' : Satellite} {p x : ℕ} {f' l' : List ℕ}
    → Listed s (Many (take w (drop at ts)) i j k) rows a b c s₁ m₁ q a' b' c' → Called n (call_at z ps qs f₁ l₁) s₁ m₁ seen f l s' p x f' l'
    → Step s (request_of n z (drop at ts) ps qs i j k f₁ l₁) rows seen a b c f l s' p q x a' b' c' f' l'
unfolding taken
asked_of zero z m w at ts ps qs i j k f₁ l₁ hm hw h hi hj hk {s} r y =
    let e : w ≡ 1 = hw ∙ hm in
    let v : 1 ≤ length (drop at ts) = omega (arith, length-drop at ts) in
    let o = one_alike s (get_or (drop at ts) 0 (pos 0)) i j k hi hj hk
    (listed_is (ap (λ z. Many (take z (drop at ts)) i j k) e ∙ ap (λ z. Many z i j k) (first (drop at ts) v)) r) in
    record {
      satellite = y.satellite ∙ o.satellite;
      strides = y.strides ∙ o.strides;
      added = o.added;
      found = y.found;
      refusals = o.refusals;
      states = o.states;
      rounds = o.rounds;
      firsts = y.firsts;
      lasts = y.lasts;
    }
asked_of (suc zero) z m w at ts ps qs i j k f₁ l₁ hm hw h hi hj hk {s} {rows} {seen} {a} {b} {c} {f} {l} {s₁} {m₁} {q} {a'} {b'} {c'} {s'} {p} {x} {f'} {l'} r y =
    let o = listed_is (ap (λ z. Many (take z (drop at ts)) i j k) (hw ∙ hm)) r in
    let e = no_times i j k in
    let same : s₁ ≡ s = o.satellite ∙ ap (satellite_from s) e in
    let v : Called 1 (call_at z ps qs f₁ l₁) s m₁ seen f l s' p x f' l' = subst (λ u. Called 1 (call_at z ps qs f₁ l₁) u m₁ seen f l s' p x f' l') same y in
    record {
      satellite = v.satellite;
      strides = v.strides;
      added = o.added ∙ ap length e;
      found = v.found;
      refusals = o.refusals ∙ ap (λ u. take rows a ++ over (refusals_of (rows_from s u)) (drop rows a)) e;
      states = o.states ∙ ap (λ u. take (6 * rows) b ++ over (states_of (rows_from s u)) (drop (6 * rows) b)) e;
      rounds = o.rounds ∙ ap (λ u. take rows c ++ over (rounds_of (rows_from s u)) (drop rows c)) e;
      firsts = v.firsts;
      lasts = v.lasts;
    }
asked_of (suc (suc n)) z m w at ts ps qs i j k f₁ l₁ hm hw h hi hj hk r y =
    let o = listed_is (ap (λ z. Many (take z (drop at ts)) i j k) (hw ∙ hm)) r in
    record {
      satellite = y.satellite ∙ o.satellite;
      strides = y.strides ∙ o.strides;
      added = o.added;
      found = y.found;
      refusals = o.refusals;
      states = o.states;
      rounds = o.rounds;
      firsts = y.firsts;
      lasts = y.lasts;
    }

-- ── rows after rows ──

module _ {A : Type 0} where
  over_over : (xs ys old : List A) (n : ℕ) → length xs ≡ n → take n (over xs old) ++ over ys (drop n (over xs old)) ≡ over (xs ++ ys) old
  over_over xs ys old n e =
      let z = drop (length xs) old in
      ap (λ k. take k (xs ++ z) ++ over ys (drop k (xs ++ z))) (sym e)
      ∙ ap (λ l. l ++ over ys (drop (length xs) (xs ++ z))) (take-append_seam xs z)
      ∙ ap (λ l. xs ++ over ys l) (drop-append_seam xs z)
      ∙ ap (λ l. xs ++ (ys ++ l)) (drop-drop (length ys) (length xs) old)
      ∙ sym (append_assoc xs ys (drop (length xs + length ys) old))
      ∙ ap (λ k. (xs ++ ys) ++ drop k old) (sym (length-append xs ys))

rows_snoc : (os : List Outcome) (o : Outcome) → rows_of (os ++ (o ∷ [])) ≡ rows_of os ++ o.rows
rows_snoc [] o = append-nil o.rows
rows_snoc (p ∷ os) o = ap (λ l. p.rows ++ l) (rows_snoc os o) ∙ sym (append_assoc p.rows (rows_of os) o.rows)

refusals_append : (xs ys : List Row) → refusals_of (xs ++ ys) ≡ refusals_of xs ++ refusals_of ys
refusals_append [] ys = refl
refusals_append (x ∷ xs) ys = ap (λ l. x.refusal ∷ l) (refusals_append xs ys)

rounds_append : (xs ys : List Row) → rounds_of (xs ++ ys) ≡ rounds_of xs ++ rounds_of ys
rounds_append [] ys = refl
rounds_append (x ∷ xs) ys = ap (λ l. x.rounds ∷ l) (rounds_append xs ys)

states_append : (xs ys : List Row) → states_of (xs ++ ys) ≡ states_of xs ++ states_of ys
states_append [] ys = refl
states_append (x ∷ xs) ys = ap (λ l. state_of x ++ l) (states_append xs ys)

module _ {A B : Type 0} where
  map_append : (g : A → B) (xs ys : List A) → map g (xs ++ ys) ≡ map g xs ++ map g ys
  map_append g [] ys = refl
  map_append g (x ∷ xs) ys = ap (λ l. g x ∷ l) (map_append g xs ys)

  map_length : (g : A → B) (xs : List A) → length (map g xs) ≡ length xs
  map_length g [] = refl
  map_length g (x ∷ xs) = ap suc (map_length g xs)

windows_snoc : (os : List Outcome) (o : Outcome) → windows_of (os ++ (o ∷ [])) ≡ windows_of os ++ o.windows
windows_snoc [] o = append-nil o.windows
windows_snoc (p ∷ os) o = ap (λ l. p.windows ++ l) (windows_snoc os o) ∙ sym (append_assoc p.windows (windows_of os) o.windows)

length_laid : (s : Satellite) (n z : ℕ) (ts : List ℤ) (ps : List Float) (qs : List ℕ) (i j k f l : ℕ) → length (laid s (request_of n z ts ps qs i j k f l)).rows ≡ length (written (request_of n z ts ps qs i j k f l))
length_laid s zero z ts ps qs i j k f l = refl
length_laid s (suc zero) z ts ps qs i j k f l = refl
length_laid s (suc (suc n)) z ts ps qs i j k f l = length_rows s (list_times (take n ts) i j k)

-- a request takes as many times as it says, and has at most so many rows
few_rows : (n z : ℕ) (ts : List ℤ) (ps : List Float) (qs : List ℕ) (i j k f l : ℕ) → length (written (request_of n z ts ps qs i j k f l)) ≤ taken n
unfolding taken
few_rows zero z ts ps qs i j k f l = omega arith
few_rows (suc zero) z ts ps qs i j k f l = omega arith
few_rows (suc (suc n)) z ts ps qs i j k f l = kept (eqb (list_refusal (length (take n ts)) i j k) 0)
  where
    kept : (b : Bool) → length (cond b (take n ts) []) ≤ n
    kept true = omega (arith, length-take n ts)
    kept false = omega arith

-- ── the loop's invariant: the outcomes of the first j requests are written ──

pub record Running (s₀ : Satellite) (ns : List ℕ) (ts : List ℤ) (ps : List Float) (qs : List ℕ) (a₀ : List ℕ) (b₀ : List Float) (c₀ f₀ l₀ d₀ e₀ : List ℕ) (a : List ℕ) (b : List Float) (c f l d e : List ℕ) (s : Satellite) (at rows seen j : ℕ) : Type 0 where
  pub done : List Outcome
  pub upto : j ≤ length ns
  pub room_t : needed ns ≤ length ts
  pub room_a : roomy (drop j ns) (length a₀ - at) ≡ true
  pub room_b : roomy (drop j ns) (length b₀ / 6 - at) ≡ true
  pub room_c : roomy (drop j ns) (length c₀ - at) ≡ true
  pub fit_a : rows ≤ length a₀
  pub fit_b : 6 * rows ≤ length b₀
  pub fit_c : rows ≤ length c₀
  pub fit_f : seen ≤ length f₀
  pub fit_l : seen ≤ length l₀
  pub room_p : length ns ≤ length ps / 3
  pub room_q : length ns ≤ length qs / 3
  pub room_d : length ns ≤ length d₀
  pub room_e : length ns ≤ length e₀
  pub small : needed ns ≤ 9223372036854775808
  pub few : 8 * length ns ≤ 9223372036854775808
  pub low : length f₀ ≤ 9223372036854775808
  pub len_a : length a ≡ length a₀
  pub len_b : length b ≡ length b₀
  pub len_c : length c ≡ length c₀
  pub len_f : length f ≡ length f₀
  pub len_l : length l ≡ length l₀
  pub len_d : length d ≡ length d₀
  pub len_e : length e ≡ length e₀
  pub took : at + needed (drop j ns) ≡ needed ns
  pub under : rows ≤ at
  pub count : length done ≡ j
  pub long : length (rows_of done) ≡ rows
  pub many : length (windows_of done) ≡ seen
  pub whole : done ++ laid_all s (script s (drop j ns) j (drop at ts) ps qs (length a₀ - rows) (length b₀ - 6 * rows) (length c₀ - rows) (length f₀ - seen) (length l₀ - seen)) ≡ laid_all s₀ (script s₀ ns 0 ts ps qs (length a₀) (length b₀) (length c₀) (length f₀) (length l₀))
  pub refusals : a ≡ over (refusals_of (rows_of done)) a₀
  pub states : b ≡ over (states_of (rows_of done)) b₀
  pub rounds : c ≡ over (rounds_of (rows_of done)) c₀
  pub firsts : f ≡ over (firsts_of (windows_of done)) f₀
  pub lasts : l ≡ over (lasts_of (windows_of done)) l₀
  pub strides : d ≡ over (strides_of done) d₀
  pub found : e ≡ over (found_of done) e₀

from_none : (n : ℕ) → n - 0 ≡ n
from_none n = omega arith

-- the requests that are left, by any names of where they begin
onward : (ps : List Float) (qs : List ℕ) {s s' : Satellite} {ns ns' : List ℕ} {z z' : ℕ} {ts ts' : List ℤ} {i i' j j' k k' f f' l l' : ℕ}
    → s ≡ s' → ns ≡ ns' → z ≡ z' → ts ≡ ts' → i ≡ i' → j ≡ j' → k ≡ k' → f ≡ f' → l ≡ l'
    → laid_all s (script s ns z ts ps qs i j k f l) ≡ laid_all s' (script s' ns' z' ts' ps qs i' j' k' f' l')
onward ps qs {s} {s'} {ns} {ns'} {z} {z'} {ts} {ts'} {i} {i'} {j} {j'} {k} {k'} {f} {f'} {l} {l'} es en ez et ei ej ek ef el =
    ap (λ u. laid_all u (script u ns z ts ps qs i j k f l)) es
    ∙ ap (λ u. laid_all s' (script s' u z ts ps qs i j k f l)) en
    ∙ ap (λ u. laid_all s' (script s' ns' u ts ps qs i j k f l)) ez
    ∙ ap (λ u. laid_all s' (script s' ns' z' u ps qs i j k f l)) et
    ∙ ap (λ u. laid_all s' (script s' ns' z' ts' ps qs u j k f l)) ei
    ∙ ap (λ u. laid_all s' (script s' ns' z' ts' ps qs i' u k f l)) ej
    ∙ ap (λ u. laid_all s' (script s' ns' z' ts' ps qs i' j' u f l)) ek
    ∙ ap (λ u. laid_all s' (script s' ns' z' ts' ps qs i' j' k' u l)) ef
    ∙ ap (λ u. laid_all s' (script s' ns' z' ts' ps qs i' j' k' f' u)) el

pub running_none : (s : Satellite) (ns : List ℕ) (ts : List ℤ) (ps : List Float) (qs : List ℕ) (a : List ℕ) (b : List Float) (c f l d e : List ℕ)
    → needed ns ≤ length ts → roomy ns (length a) ≡ true → roomy ns (length b / 6) ≡ true → roomy ns (length c) ≡ true → length ns ≤ length d
    → length ns ≤ length ps / 3 → length ns ≤ length qs / 3 → length ns ≤ length e
    → needed ns ≤ 9223372036854775808 → 8 * length ns ≤ 9223372036854775808 → length f ≤ 9223372036854775808 → Running s ns ts ps qs a b c f l d e a b c f l d e s 0 0 0 0
running_none s ns ts ps qs a b c f l d e ht ha hb hc hd hp hq he hs hf hw = record {
  done = [];
  upto = omega arith;
  room_t = ht;
  room_a = ap (roomy ns) (from_none (length a)) ∙ ha;
  room_b = ap (roomy ns) (from_none (length b / 6)) ∙ hb;
  room_c = ap (roomy ns) (from_none (length c)) ∙ hc;
  fit_a = omega arith;
  fit_b = omega arith;
  fit_c = omega arith;
  fit_f = omega arith;
  fit_l = omega arith;
  room_p = hp;
  room_q = hq;
  room_d = hd;
  room_e = he;
  small = hs;
  few = hf;
  low = hw;
  len_a = refl;
  len_b = refl;
  len_c = refl;
  len_f = refl;
  len_l = refl;
  len_d = refl;
  len_e = refl;
  took = omega arith;
  under = omega arith;
  count = refl;
  long = refl;
  many = refl;
  whole = onward ps qs refl refl refl refl (from_none (length a)) (from_none (length b)) (from_none (length c)) (from_none (length f)) (from_none (length l));
  refusals = refl;
  states = refl;
  rounds = refl;
  firsts = refl;
  lasts = refl;
  strides = refl;
  found = refl;
}

needed_drop : (ns : List ℕ) (j d : ℕ) → j < length ns → needed (drop j ns) ≡ taken (get_or ns j d) + needed (drop (j + 1) ns)
unfolding needed
needed_drop ns j d h = ap needed (drop-cons ns j d h) ∙ ap (λ k. taken (get_or ns j d) + needed (drop k ns)) (sym (add-one j))

-- the times that the next request takes are there
pub next_fits : {s₀ : Satellite} {ns : List ℕ} {ts : List ℤ} {ps : List Float} {qs : List ℕ} {a₀ : List ℕ} {b₀ : List Float} {c₀ f₀ l₀ d₀ e₀ : List ℕ} {a : List ℕ} {b : List Float} {c f l d e : List ℕ} {s : Satellite} {at rows seen j : ℕ} (z : ℕ)
    → Running s₀ ns ts ps qs a₀ b₀ c₀ f₀ l₀ d₀ e₀ a b c f l d e s at rows seen j → j < length ns → at + taken (get_or ns j z) ≤ needed ns
next_fits {s₀} {ns} {ts} {ps} {qs} {a₀} {b₀} {c₀} {f₀} {l₀} {d₀} {e₀} {a} {b} {c} {f} {l} {d} {e} {s} {at} {rows} {seen} {j} z g h = omega (arith, g.took, needed_drop ns j z h)

wide : (rows at d m l : ℕ) → rows ≤ at → rows ≤ m → d ≤ m - at → l ≡ m → rows + d ≤ l
wide rows at d m l h k e w = omega arith

wide_six : (rows at d m l : ℕ) → rows ≤ at → 6 * rows ≤ m → d ≤ m / 6 - at → l ≡ m → 6 * (rows + d) ≤ l
wide_six rows at d m l h k e w = omega arith

most : (x n m l : ℕ) → x ≤ n → n ≤ m → l ≡ m → x ≤ l
most x n m l h k e = omega arith

-- and its rows have room
pub next_room : {s₀ : Satellite} {ns : List ℕ} {ts : List ℤ} {ps : List Float} {qs : List ℕ} {a₀ : List ℕ} {b₀ : List Float} {c₀ f₀ l₀ d₀ e₀ : List ℕ} {a : List ℕ} {b : List Float} {c f l d e : List ℕ} {s : Satellite} {at rows seen j : ℕ} (z : ℕ)
    → Running s₀ ns ts ps qs a₀ b₀ c₀ f₀ l₀ d₀ e₀ a b c f l d e s at rows seen j → j < length ns
    → (at + taken (get_or ns j z) ≤ length ts) × ((rows + due (get_or ns j z) ≤ length a) × ((6 * (rows + due (get_or ns j z)) ≤ length b) × (rows + due (get_or ns j z) ≤ length c)))
next_room {s₀} {ns} {ts} {ps} {qs} {a₀} {b₀} {c₀} {f₀} {l₀} {d₀} {e₀} {a} {b} {c} {f} {l} {d} {e} {s} {at} {rows} {seen} {j} z x h =
    let g = taken (get_or ns j z) in
    let d' = due (get_or ns j z) in
    let e : at + g ≤ needed ns = next_fits z x h in (
      most (at + g) (needed ns) (length ts) (length ts) e x.room_t refl,
      (
        wide rows at d' (length a₀) (length a) x.under x.fit_a (next_roomy ns j z (length a₀) at g h refl x.room_a).0 x.len_a,
        (
          wide_six rows at d' (length b₀) (length b) x.under x.fit_b (next_roomy ns j z (length b₀ / 6) at g h refl x.room_b).0 x.len_b,
          wide rows at d' (length c₀) (length c) x.under x.fit_c (next_roomy ns j z (length c₀) at g h refl x.room_c).0 x.len_c,
        ),
      ),
    )

pub times_fit : {s₀ : Satellite} {ns : List ℕ} {ts : List ℤ} {ps : List Float} {qs : List ℕ} {a₀ : List ℕ} {b₀ : List Float} {c₀ f₀ l₀ d₀ e₀ : List ℕ} {a : List ℕ} {b : List Float} {c f l d e : List ℕ} {s : Satellite} {at rows seen j : ℕ} (z m : ℕ)
    → Running s₀ ns ts ps qs a₀ b₀ c₀ f₀ l₀ d₀ e₀ a b c f l d e s at rows seen j → j < length ns → m ≡ taken (get_or ns j z) → at + m ≤ length ts
times_fit {ts = ts} {at = at} z m x h hm = subst (λ i. at + i ≤ length ts) (sym hm) (next_room z x h).0

-- what is written already has room
pub written_fits : {s₀ : Satellite} {ns : List ℕ} {ts : List ℤ} {ps : List Float} {qs : List ℕ} {a₀ : List ℕ} {b₀ : List Float} {c₀ f₀ l₀ d₀ e₀ : List ℕ} {a : List ℕ} {b : List Float} {c f l d e : List ℕ} {s : Satellite} {at rows seen j : ℕ}
    → Running s₀ ns ts ps qs a₀ b₀ c₀ f₀ l₀ d₀ e₀ a b c f l d e s at rows seen j → (rows ≤ length a) × ((6 * rows ≤ length b) × (rows ≤ length c))
written_fits {rows = rows} x =
    (subst (λ i. rows ≤ i) (sym x.len_a) x.fit_a, (subst (λ i. 6 * rows ≤ i) (sym x.len_b) x.fit_b, subst (λ i. rows ≤ i) (sym x.len_c) x.fit_c))

third : (j n m : ℕ) → j < n → n ≤ m / 3 → 3 * j + 3 ≤ m
third j n m h k = omega arith

-- a call's numbers are there, and so are the windows that are written already
pub calls_fit : {s₀ : Satellite} {ns : List ℕ} {ts : List ℤ} {ps : List Float} {qs : List ℕ} {a₀ : List ℕ} {b₀ : List Float} {c₀ f₀ l₀ d₀ e₀ : List ℕ} {a : List ℕ} {b : List Float} {c f l d e : List ℕ} {s : Satellite} {at rows seen j : ℕ}
    → Running s₀ ns ts ps qs a₀ b₀ c₀ f₀ l₀ d₀ e₀ a b c f l d e s at rows seen j → j < length ns → (3 * j + 3 ≤ length ps) × ((3 * j + 3 ≤ length qs) × ((seen ≤ length f) × (seen ≤ length l)))
calls_fit {ns = ns} {ps = ps} {qs = qs} {seen = seen} {j = j} x h =
    (third j (length ns) (length ps) h x.room_p, (third j (length ns) (length qs) h x.room_q, (subst (λ i. seen ≤ i) (sym x.len_f) x.fit_f, subst (λ i. seen ≤ i) (sym x.len_l) x.fit_l)))

pub next_rows : (n z : ℕ) (ts : List ℤ) (ps : List Float) (qs : List ℕ) (i j k f₁ l₁ : ℕ) {s : Satellite} {rows seen : ℕ} {a : List ℕ} {b : List Float} {c f l : List ℕ} {s' : Satellite} {q m w : ℕ} {a' : List ℕ} {b' : List Float} {c' f' l' : List ℕ}
    → Step s (request_of n z ts ps qs i j k f₁ l₁) rows seen a b c f l s' q m w a' b' c' f' l' → m ≤ taken n
next_rows n z ts ps qs i j k f₁ l₁ p = subst (λ z. z ≤ taken n) (sym p.added) (few_rows n z ts ps qs i j k f₁ l₁)

pub next_windows : (n z : ℕ) (ts : List ℤ) (ps : List Float) (qs : List ℕ) (i j k f₁ l₁ : ℕ) {s : Satellite} {rows seen : ℕ} {a : List ℕ} {b : List Float} {c f l : List ℕ} {s' : Satellite} {q m w : ℕ} {a' : List ℕ} {b' : List Float} {c' f' l' : List ℕ}
    → Step s (request_of n z ts ps qs i j k f₁ l₁) rows seen a b c f l s' q m w a' b' c' f' l' → (w ≤ f₁) × (w ≤ l₁)
next_windows n z ts ps qs i j k f₁ l₁ {s} p =
    let b = windows_bound s n z ts ps qs i j k f₁ l₁ in
    (subst (λ x. x ≤ f₁) (sym p.found) b.0, subst (λ x. x ≤ l₁) (sym p.found) b.1)

due_left : (rows d l m : ℕ) → rows + d ≤ m → m ≡ l → d ≤ l - rows
due_left rows d l m h e = omega arith

due_left_six : (rows d l m : ℕ) → 6 * (rows + d) ≤ m → m ≡ l → 6 * d ≤ l - 6 * rows
due_left_six rows d l m h e = omega arith

-- what the request does, from what its times do as a list, and its call after them
pub next_step : {s₀ : Satellite} {ns : List ℕ} {ts : List ℤ} {ps : List Float} {qs : List ℕ} {a₀ : List ℕ} {b₀ : List Float} {c₀ f₀ l₀ d₀ e₀ : List ℕ} {a : List ℕ} {b : List Float} {c f l d e : List ℕ} {s : Satellite} {at rows seen j : ℕ} (z m : ℕ)
    → Running s₀ ns ts ps qs a₀ b₀ c₀ f₀ l₀ d₀ e₀ a b c f l d e s at rows seen j → j < length ns → m ≡ taken (get_or ns j z)
    → {s₁ : Satellite} {n₁ k : ℕ} {a' : List ℕ} {b' : List Float} {c' : List ℕ} {s' : Satellite} {n w : ℕ} {f' l' : List ℕ}
    → Listed s (Many (take (at + m - at) (drop at ts)) (length a - rows) (length b - 6 * rows) (length c - rows)) rows a b c s₁ n₁ k a' b' c'
    → Called (get_or ns j z) (call_at j ps qs (length f - seen) (length l - seen)) s₁ n₁ seen f l s' n w f' l'
    → Step s (request_of (get_or ns j z) j (drop at ts) ps qs (length a - rows) (length b - 6 * rows) (length c - rows) (length f - seen) (length l - seen)) rows seen a b c f l s' n k w a' b' c' f' l'
next_step {s₀} {ns} {ts} {ps} {qs} {a₀} {b₀} {c₀} {f₀} {l₀} {d₀} {e₀} {a} {b} {c} {f} {l} {d} {e} {s} {at} {rows} {seen} {j} z m x h hm r y =
    let g = get_or ns j z in
    let room = next_room z x h in
    let e : at + m - at ≡ m = omega arith in
    asked_of g j m (at + m - at) at ts ps qs (length a - rows) (length b - 6 * rows) (length c - rows) (length f - seen) (length l - seen) hm e (times_fit z m x h hm)
    (due_left rows (due g) (length a) (length a) room.1.0 refl) (due_left_six rows (due g) (length b) (length b) room.1.1.0 refl)
    (due_left rows (due g) (length c) (length c) room.1.1.1 refl) r y

module _ {A : Type 0} where
  length_part : (xs l : List A) (n : ℕ) → n + length xs ≤ length l → length (take n l ++ over xs (drop n l)) ≡ length l
  length_part xs l n h =
      let k : length xs ≤ length (drop n l) = omega (arith, length-drop n l) in
      let w : n ≤ length l = omega arith in
      omega (arith, length-append (take n l) (over xs (drop n l)), length_over xs (drop n l) k, length-take-le n l w, length-drop n l)

rows_fit : (rows k l m x : ℕ) → rows ≤ l → k ≤ l - rows → x ≡ k → m ≡ l → rows + x ≤ m
rows_fit rows k l m x h e w q = omega arith

rows_fit_six : (rows k l m x : ℕ) → 6 * rows ≤ l → 6 * k ≤ l - 6 * rows → x ≡ 6 * k → m ≡ l → 6 * rows + x ≤ m
rows_fit_six rows k l m x h e w q = omega arith

six_more : (rows k l : ℕ) → 6 * rows ≤ l → 6 * k ≤ l - 6 * rows → 6 * (rows + k) ≤ l
six_more rows k l h e = omega arith

-- what the script is from its next request on
script_next : (s : Satellite) (ns : List ℕ) (z : ℕ) (ts : List ℤ) (ps : List Float) (qs : List ℕ) (i j k f l n : ℕ) → laid_all s (script s (n ∷ ns) z ts ps qs i j k f l)
    ≡ laid s (request_of n z ts ps qs i j k f l) ∷ laid_all (laid s (request_of n z ts ps qs i j k f l)).satellite
    (script (laid s (request_of n z ts ps qs i j k f l)).satellite ns (suc z) (drop (taken n) ts) ps qs (i - length (written (request_of n z ts ps qs i j k f l))) (j - 6 * length (written (request_of n z ts ps qs i j k f l))) (k - length (written (request_of n z ts ps qs i j k f l)))
    (f - length (laid s (request_of n z ts ps qs i j k f l)).windows) (l - length (laid s (request_of n z ts ps qs i j k f l)).windows))
unfolding script
script_next s ns z ts ps qs i j k f l n = refl

less : (x y k l : ℕ) → k ≡ l → x - y - l ≡ x - (y + k)
less x y k l e = omega arith

less_six : (x y k l : ℕ) → k ≡ l → x - 6 * y - 6 * l ≡ x - 6 * (y + k)
less_six x y k l e = omega arith

up : (j n : ℕ) → j < n → j + 1 ≤ n
up j n h = omega arith

below : (j n m : ℕ) → j < n → n ≤ m → j < m
below j n m h k = omega arith

-- the next request has a place for its strides, and one for how many windows it gave
pub places : {s₀ : Satellite} {ns : List ℕ} {ts : List ℤ} {ps : List Float} {qs : List ℕ} {a₀ : List ℕ} {b₀ : List Float} {c₀ f₀ l₀ d₀ e₀ : List ℕ} {a : List ℕ} {b : List Float} {c f l d e : List ℕ} {s : Satellite} {at rows seen j : ℕ}
    → Running s₀ ns ts ps qs a₀ b₀ c₀ f₀ l₀ d₀ e₀ a b c f l d e s at rows seen j → j < length ns → (j < length d) × (j < length e)
places {ns = ns} {d₀ = d₀} {e₀ = e₀} {j = j} x h =
    (subst (λ i. j < i) (sym x.len_d) (below j (length ns) (length d₀) h x.room_d), subst (λ i. j < i) (sym x.len_e) (below j (length ns) (length e₀) h x.room_e))

took_next : (at m g x y n : ℕ) → at + x ≡ n → x ≡ g + y → m ≡ g → at + m + y ≡ n
took_next at m g x y n h k e = omega arith

under_next : (rows at k m g : ℕ) → rows ≤ at → k ≤ g → m ≡ g → rows + k ≤ at + m
under_next rows at k m g h l e = omega arith

-- each request is put to the satellite that the last gave back
pub running_more : (s₀ : Satellite) (ns : List ℕ) (ts : List ℤ) (ps : List Float) (qs : List ℕ) (a₀ : List ℕ) (b₀ : List Float) (c₀ f₀ l₀ d₀ e₀ : List ℕ) (a : List ℕ) (b : List Float) (c f l d e : List ℕ) (s : Satellite) (at rows seen j : ℕ) (z m : ℕ) (s' : Satellite) (n k w : ℕ) (a' : List ℕ) (b' : List Float) (c' f' l' : List ℕ)
    → Running s₀ ns ts ps qs a₀ b₀ c₀ f₀ l₀ d₀ e₀ a b c f l d e s at rows seen j → j < length ns → m ≡ taken (get_or ns j z)
    → Step s (request_of (get_or ns j z) j (drop at ts) ps qs (length a - rows) (length b - 6 * rows) (length c - rows) (length f - seen) (length l - seen)) rows seen a b c f l s' n k w a' b' c' f' l'
    → Running s₀ ns ts ps qs a₀ b₀ c₀ f₀ l₀ d₀ e₀ a' b' c' f' l' (set d j n) (set e j w) s' (at + m) (rows + k) (seen + w) (j + 1)
running_more s₀ ns ts ps qs a₀ b₀ c₀ f₀ l₀ d₀ e₀ a b c f l d e s at rows seen j z m s' n k w a' b' c' f' l' x h hm p =
    let g = get_or ns j z in
    let r = request_of g j (drop at ts) ps qs (length a - rows) (length b - 6 * rows) (length c - rows) (length f - seen) (length l - seen) in
    let r₀ = request_of g j (drop at ts) ps qs (length a₀ - rows) (length b₀ - 6 * rows) (length c₀ - rows) (length f₀ - seen) (length l₀ - seen) in
    let same : r ≡ r₀ =
    ap (λ i. request_of g j (drop at ts) ps qs (i - rows) (length b - 6 * rows) (length c - rows) (length f - seen) (length l - seen)) x.len_a
    ∙ ap (λ i. request_of g j (drop at ts) ps qs (length a₀ - rows) (i - 6 * rows) (length c - rows) (length f - seen) (length l - seen)) x.len_b
    ∙ ap (λ i. request_of g j (drop at ts) ps qs (length a₀ - rows) (length b₀ - 6 * rows) (i - rows) (length f - seen) (length l - seen)) x.len_c
    ∙ ap (λ i. request_of g j (drop at ts) ps qs (length a₀ - rows) (length b₀ - 6 * rows) (length c₀ - rows) (i - seen) (length l - seen)) x.len_f
    ∙ ap (λ i. request_of g j (drop at ts) ps qs (length a₀ - rows) (length b₀ - 6 * rows) (length c₀ - rows) (length f₀ - seen) (i - seen)) x.len_l in
    let q : Step s r₀ rows seen a b c f l s' n k w a' b' c' f' l' = step_is same p in
    let o = laid s r₀ in
    let more : List Outcome = x.done ++ (o ∷ []) in
    let rowsMore : rows_of more ≡ rows_of x.done ++ o.rows = rows_snoc x.done o in
    let windowsMore : windows_of more ≡ windows_of x.done ++ o.windows = windows_snoc x.done o in
    let few : k ≤ taken g = subst (λ i. i ≤ taken g) (sym q.added) (few_rows g j (drop at ts) ps qs (length a₀ - rows) (length b₀ - 6 * rows) (length c₀ - rows) (length f₀ - seen) (length l₀ - seen)) in
    let et : drop (taken g) (drop at ts) ≡ drop (at + m) ts = drop-drop (taken g) at ts ∙ ap (λ i. drop (at + i) ts) (sym hm) in
    let next : laid_all s (script s (drop j ns) j (drop at ts) ps qs (length a₀ - rows) (length b₀ - 6 * rows) (length c₀ - rows) (length f₀ - seen) (length l₀ - seen))
    ≡ o ∷ laid_all s' (script s' (drop (j + 1) ns) (j + 1) (drop (at + m) ts) ps qs (length a₀ - (rows + k)) (length b₀ - 6 * (rows + k)) (length c₀ - (rows + k)) (length f₀ - (seen + w)) (length l₀ - (seen + w))) =
    ap (λ u. laid_all s (script s u j (drop at ts) ps qs (length a₀ - rows) (length b₀ - 6 * rows) (length c₀ - rows) (length f₀ - seen) (length l₀ - seen))) (drop-cons ns j z h)
    ∙ script_next s (drop (suc j) ns) j (drop at ts) ps qs (length a₀ - rows) (length b₀ - 6 * rows) (length c₀ - rows) (length f₀ - seen) (length l₀ - seen) g
    ∙ ap (λ u. o ∷ u)
    (onward ps qs (sym q.satellite) (ap (λ i. drop i ns) (sym (add-one j))) (sym (add-one j)) et
    (less (length a₀) rows k (length (written r₀)) q.added) (less_six (length b₀) rows k (length (written r₀)) q.added) (less (length c₀) rows k (length (written r₀)) q.added)
    (less (length f₀) seen w (length o.windows) q.found) (less (length l₀) seen w (length o.windows) q.found)) in
    let room = next_room z x h in
    let lk : length o.rows ≡ k = length_laid s g j (drop at ts) ps qs (length a₀ - rows) (length b₀ - 6 * rows) (length c₀ - rows) (length f₀ - seen) (length l₀ - seen) ∙ sym q.added in
    let bound = rows_bound g j (drop at ts) ps qs (length a₀ - rows) (length b₀ - 6 * rows) (length c₀ - rows) (length f₀ - seen) (length l₀ - seen)
    (due_left rows (due g) (length a₀) (length a) room.1.0 x.len_a) (due_left_six rows (due g) (length b₀) (length b) room.1.1.0 x.len_b)
    (due_left rows (due g) (length c₀) (length c) room.1.1.1 x.len_c) in
    let ka : k ≤ length a₀ - rows = subst (λ i. i ≤ length a₀ - rows) (sym q.added) bound.0 in
    let kb : 6 * k ≤ length b₀ - 6 * rows = subst (λ i. 6 * i ≤ length b₀ - 6 * rows) (sym q.added) bound.1 in
    let kc : k ≤ length c₀ - rows = subst (λ i. i ≤ length c₀ - rows) (sym q.added) bound.2 in
    let kw = next_windows g j (drop at ts) ps qs (length a₀ - rows) (length b₀ - 6 * rows) (length c₀ - rows) (length f₀ - seen) (length l₀ - seen) q in
    let la : length a' ≡ length a =
    ap length q.refusals ∙ length_part (refusals_of o.rows) a rows (rows_fit rows k (length a₀) (length a) _ x.fit_a ka (length_refusals o.rows ∙ lk) x.len_a) in
    let lb : length b' ≡ length b =
    ap length q.states ∙ length_part (states_of o.rows) b (6 * rows) (rows_fit_six rows k (length b₀) (length b) _ x.fit_b kb (length_states o.rows ∙ ap (λ i. 6 * i) lk) x.len_b) in
    let lc : length c' ≡ length c =
    ap length q.rounds ∙ length_part (rounds_of o.rows) c rows (rows_fit rows k (length c₀) (length c) _ x.fit_c kc (length_rounds o.rows ∙ lk) x.len_c) in
    let lf : length f' ≡ length f =
    ap length q.firsts ∙ length_part (firsts_of o.windows) f seen (rows_fit seen w (length f₀) (length f) _ x.fit_f kw.0 (map_length (λ (v : Window). v.first) o.windows ∙ sym q.found) x.len_f) in
    let ll : length l' ≡ length l =
    ap length q.lasts ∙ length_part (lasts_of o.windows) l seen (rows_fit seen w (length l₀) (length l) _ x.fit_l kw.1 (map_length (λ (v : Window). v.last) o.windows ∙ sym q.found) x.len_l) in
    let lr : length (refusals_of (rows_of x.done)) ≡ rows = length_refusals (rows_of x.done) ∙ x.long in
    let ls : length (states_of (rows_of x.done)) ≡ 6 * rows = length_states (rows_of x.done) ∙ ap (λ i. 6 * i) x.long in
    let lo : length (rounds_of (rows_of x.done)) ≡ rows = length_rounds (rows_of x.done) ∙ x.long in
    let l1 : length (firsts_of (windows_of x.done)) ≡ seen = map_length (λ (v : Window). v.first) (windows_of x.done) ∙ x.many in
    let l2 : length (lasts_of (windows_of x.done)) ≡ seen = map_length (λ (v : Window). v.last) (windows_of x.done) ∙ x.many in
    record {
      done = more;
      upto = up j (length ns) h;
      room_t = x.room_t;
      room_a = (next_roomy ns j z (length a₀) at m h hm x.room_a).1;
      room_b = (next_roomy ns j z (length b₀ / 6) at m h hm x.room_b).1;
      room_c = (next_roomy ns j z (length c₀) at m h hm x.room_c).1;
      fit_a = rows_fit rows k (length a₀) (length a₀) k x.fit_a ka refl refl;
      fit_b = six_more rows k (length b₀) x.fit_b kb;
      fit_c = rows_fit rows k (length c₀) (length c₀) k x.fit_c kc refl refl;
      fit_f = rows_fit seen w (length f₀) (length f₀) w x.fit_f kw.0 refl refl;
      fit_l = rows_fit seen w (length l₀) (length l₀) w x.fit_l kw.1 refl refl;
      room_p = x.room_p;
      room_q = x.room_q;
      room_d = x.room_d;
      room_e = x.room_e;
      small = x.small;
      few = x.few;
      low = x.low;
      len_a = la ∙ x.len_a;
      len_b = lb ∙ x.len_b;
      len_c = lc ∙ x.len_c;
      len_f = lf ∙ x.len_f;
      len_l = ll ∙ x.len_l;
      len_d = length-set d j n ∙ x.len_d;
      len_e = length-set e j w ∙ x.len_e;
      took = took_next at m (taken g) (needed (drop j ns)) (needed (drop (j + 1) ns)) (needed ns) x.took (needed_drop ns j z h) hm;
      under = under_next rows at k m (taken g) x.under few hm;
      count = length-append x.done (o ∷ []) ∙ ap (λ i. i + 1) x.count;
      long = ap length rowsMore ∙ length-append (rows_of x.done) o.rows ∙ ap (λ i. i + length o.rows) x.long ∙ ap (λ i. rows + i) lk;
      many = ap length windowsMore ∙ length-append (windows_of x.done) o.windows ∙ ap (λ i. i + length o.windows) x.many ∙ ap (λ i. seen + i) (sym q.found);
      whole = append_snoc x.done o _ ∙ ap (λ u. x.done ++ u) (sym next) ∙ x.whole;
      refusals =
          q.refusals ∙ ap (λ u. take rows u ++ over (refusals_of o.rows) (drop rows u)) x.refusals
          ∙ over_over (refusals_of (rows_of x.done)) (refusals_of o.rows) a₀ rows lr
          ∙ ap (λ u. over u a₀) (sym (ap refusals_of rowsMore ∙ refusals_append (rows_of x.done) o.rows));
      states =
          q.states ∙ ap (λ u. take (6 * rows) u ++ over (states_of o.rows) (drop (6 * rows) u)) x.states
          ∙ over_over (states_of (rows_of x.done)) (states_of o.rows) b₀ (6 * rows) ls
          ∙ ap (λ u. over u b₀) (sym (ap states_of rowsMore ∙ states_append (rows_of x.done) o.rows));
      rounds =
          q.rounds ∙ ap (λ u. take rows u ++ over (rounds_of o.rows) (drop rows u)) x.rounds
          ∙ over_over (rounds_of (rows_of x.done)) (rounds_of o.rows) c₀ rows lo
          ∙ ap (λ u. over u c₀) (sym (ap rounds_of rowsMore ∙ rounds_append (rows_of x.done) o.rows));
      firsts =
          q.firsts ∙ ap (λ u. take seen u ++ over (firsts_of o.windows) (drop seen u)) x.firsts
          ∙ over_over (firsts_of (windows_of x.done)) (firsts_of o.windows) f₀ seen l1
          ∙ ap (λ u. over u f₀) (sym (ap firsts_of windowsMore ∙ map_append (λ (v : Window). v.first) (windows_of x.done) o.windows));
      lasts =
          q.lasts ∙ ap (λ u. take seen u ++ over (lasts_of o.windows) (drop seen u)) x.lasts
          ∙ over_over (lasts_of (windows_of x.done)) (lasts_of o.windows) l₀ seen l2
          ∙ ap (λ u. over u l₀) (sym (ap lasts_of windowsMore ∙ map_append (λ (v : Window). v.last) (windows_of x.done) o.windows));
      strides =
          ap (λ u. set u j n) x.strides
          ∙ over_set (strides_of x.done) d₀ n j (map_length (λ (v : Outcome). v.strides) x.done ∙ x.count) (below j (length ns) (length d₀) h x.room_d)
          ∙ ap (λ i. over (strides_of x.done ++ (i ∷ [])) d₀) q.strides
          ∙ ap (λ u. over u d₀) (sym (map_append (λ (v : Outcome). v.strides) x.done (o ∷ [])));
      found =
          ap (λ u. set u j w) x.found
          ∙ over_set (found_of x.done) e₀ w j (map_length (λ (v : Outcome). length v.windows) x.done ∙ x.count) (below j (length ns) (length e₀) h x.room_e)
          ∙ ap (λ i. over (found_of x.done ++ (i ∷ [])) e₀) q.found
          ∙ ap (λ u. over u e₀) (sym (map_append (λ (v : Outcome). length v.windows) x.done (o ∷ [])));
    }

pub running_done : {s₀ : Satellite} {ns : List ℕ} {ts : List ℤ} {ps : List Float} {qs : List ℕ} {a₀ : List ℕ} {b₀ : List Float} {c₀ f₀ l₀ d₀ e₀ : List ℕ} {a : List ℕ} {b : List Float} {c f l d e : List ℕ} {s : Satellite} {at rows seen j : ℕ}
    → Running s₀ ns ts ps qs a₀ b₀ c₀ f₀ l₀ d₀ e₀ a b c f l d e s at rows seen j → length ns ≤ j
    → Left s₀ (script s₀ ns 0 ts ps qs (length a₀) (length b₀) (length c₀) (length f₀) (length l₀)) a₀ b₀ c₀ f₀ l₀ d₀ e₀ a b c f l d e
unfolding script
running_done {s₀} {ns} {ts} {ps} {qs} {a₀} {b₀} {c₀} {f₀} {l₀} {d₀} {e₀} {a} {b} {c} {f} {l} {d} {e} {s} {at} {rows} {seen} {j} x h =
    let v : j ≡ length ns = omega (arith, x.upto) in
    let none : drop j ns ≡ [] = ap (λ i. drop i ns) v ∙ drop-length ns in
    let all : x.done ≡ laid_all s₀ (script s₀ ns 0 ts ps qs (length a₀) (length b₀) (length c₀) (length f₀) (length l₀)) =
    sym (append-nil x.done)
    ∙ ap (λ u. x.done ++ laid_all s (script s u j (drop at ts) ps qs (length a₀ - rows) (length b₀ - 6 * rows) (length c₀ - rows) (length f₀ - seen) (length l₀ - seen))) (sym none)
    ∙ x.whole in
    record {
      refusals = x.refusals ∙ ap (λ u. over (refusals_of (rows_of u)) a₀) all;
      states = x.states ∙ ap (λ u. over (states_of (rows_of u)) b₀) all;
      rounds = x.rounds ∙ ap (λ u. over (rounds_of (rows_of u)) c₀) all;
      firsts = x.firsts ∙ ap (λ u. over (firsts_of (windows_of u)) f₀) all;
      lasts = x.lasts ∙ ap (λ u. over (lasts_of (windows_of u)) l₀) all;
      strides = x.strides ∙ ap (λ u. over (strides_of u) d₀) all;
      found = x.found ∙ ap (λ u. over (found_of u) e₀) all;
    }

-- ── nothing grows too large ──

pub index_small : (j n : ℕ) → j < n → 8 * n ≤ 9223372036854775808 → j * 4 < 18446744073709551616
index_small j n h k = omega arith

pub rows_small : (rows at k g n : ℕ) → rows ≤ at → k ≤ g → at + g ≤ n → n ≤ 9223372036854775808 → rows + k < 18446744073709551616
rows_small rows at k g n h l e w = omega arith

pub times_small : (at m g n : ℕ) → m ≡ g → at + g ≤ n → n ≤ 9223372036854775808 → at + m < 18446744073709551616
times_small at m g n h e w = omega arith

pub windows_small : (seen w n m : ℕ) → seen ≤ n → w ≤ m - seen → m ≡ n → n ≤ 9223372036854775808 → seen + w < 18446744073709551616
windows_small seen w n m h k e x = omega arith

pub index_eight : (j n : ℕ) → j < n → 8 * n ≤ 9223372036854775808 → j * 8 < 18446744073709551616
index_eight j n h k = omega arith
