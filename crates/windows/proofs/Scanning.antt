-- Windows written one after the other at the front of two rooms.
use mathlib.Core.Path.{◌≡◌, refl, sym, ap, ◌∙◌, subst}
use mathlib.Core.Bool.{Bool, true, false, cond, false≢true}
use mathlib.Core.List.{List, [], ◌∷◌, ◌++◌, map}
use Prim.Native.Nat.{ℕ, suc, ◌+◌, ◌*◌, ◌/◌, ◌≤◌, ◌<◌}
use native.Mathlib.Omega.{arith}
use lib.ListN.{length, set, length-append, length-set}
use lib.Ieee.{Float}
use borrow.Author.Tests.{eq-eqb, ne_eqb}
use Rattle.earth_fixed.specs.Frame.{seen_of}
use Rattle.runs.specs.Runs.{Window}
use Rattle.requests.specs.Lists.{over}
use Rattle.requests.proofs.Filling.{over_set}
use Rattle.windows.specs.declared.Track.{Track}
use Rattle.windows.specs.Windows.{sees}
use Rattle.windows.specs.Scan.{shut, further_of, closing, scanned, windows_to, Put, Written}

-- ── one run ──

pub room_by : (b : Bool) (n l : ℕ) → n + cond b 1 0 ≤ l → b ≡ true → n < l
room_by true n l h e = omega arith
room_by false n l h e = absurd (false≢true e)

pub further_on : (r : Track) (t : ℕ) → r.on ≡ true → ◌≡◌ {A = Track} (record { on = true; first = r.first; last = t }) (further_of r t)
further_on r t h = rw h

pub further_off : (r : Track) (t : ℕ) → r.on ≡ false → ◌≡◌ {A = Track} (record { on = true; first = t; last = t }) (further_of r t)
further_off r t h = rw h

-- ── one sample ──

pub not_seen : (station : List Float) (t n : ℕ) (x y z : Float) → (n ≡ 0 → ⊥) → false ≡ sees station t n x y z
unfolding sees
not_seen station t n x y z h = rw (ne_eqb n 0 h)

pub is_seen_lem : (station : List Float) (t n : ℕ) (x y z : Float) (r : Bool) → n ≡ 0 → r ≡ seen_of station t (x ∷ y ∷ z ∷ []) → r ≡ sees station t n x y z
unfolding sees
is_seen_lem station t n x y z r h e = rw (eq-eqb n 0 h) e

pub wrote : (r : Track) (n : ℕ) (a b : List ℕ) → r.on ≡ true → Put r n a b (n + 1) (set a n r.first) (set b n r.last)
wrote r n a b h = record { count = rw h; firsts = rw h; lasts = rw h }

pub kept : (r : Track) (n : ℕ) (a b : List ℕ) → r.on ≡ false → Put r n a b n a b
kept r n a b h = record { count = rw h (omega arith); firsts = rw h; lasts = rw h }

-- ── one run more ──

append_nil : {A : Type 0} (xs : List A) → xs ++ [] ≡ xs
append_nil [] = refl
append_nil (x ∷ xs) = ap (λ l. x ∷ l) (append_nil xs)

map_append : (f : Window → ℕ) (ws vs : List Window) → map f (ws ++ vs) ≡ map f ws ++ map f vs
map_append f [] vs = refl
map_append f (w ∷ ws) vs = ap (λ l. f w ∷ l) (map_append f ws vs)

length_map : (f : Window → ℕ) (ws : List Window) → length (map f ws) ≡ length ws
length_map f [] = refl
length_map f (w ∷ ws) = ap suc (length_map f ws)

-- one number more at the front of a room
more : (f : Window → ℕ) (ws : List Window) (w : Window) (old a a' : List ℕ) (n : ℕ) → a ≡ over (map f ws) old → n ≡ length ws → n < length old → a' ≡ set a n (f w)
    → a' ≡ over (map f (ws ++ (w ∷ []))) old
more f ws w old a a' n h e l q =
    q ∙ ap (λ z. set z n (f w)) h ∙ over_set (map f ws) old (f w) n (length_map f ws ∙ sym e) l ∙ ap (λ z. over z old) (sym (map_append f ws (w ∷ [])))

put_by : (on : Bool) (w : Window) (ws : List Window) (a₀ b₀ a b : List ℕ) (n m : ℕ) (a' b' : List ℕ) → Written ws a₀ b₀ n a b → m ≡ n + cond on 1 0
    → a' ≡ cond on (set a n w.first) a → b' ≡ cond on (set b n w.last) b → n + cond on 1 0 ≤ length a₀ → n + cond on 1 0 ≤ length b₀
    → Written (ws ++ cond on (w ∷ []) []) a₀ b₀ m a' b'
put_by true w ws a₀ b₀ a b n m a' b' h c f l p q =
    record {
      count = omega (arith, length-append ws (w ∷ []), h.count);
      firsts = more (λ w. w.first) ws w a₀ a a' n h.firsts h.count (omega arith) f;
      lasts = more (λ w. w.last) ws w b₀ b b' n h.lasts h.count (omega arith) l;
    }
put_by false w ws a₀ b₀ a b n m a' b' h c f l p q =
    rw (append_nil ws) (record { count = omega (arith, h.count); firsts = f ∙ h.firsts; lasts = l ∙ h.lasts })

pub put_more : (r : Track) (ws : List Window) (a₀ b₀ a b : List ℕ) (n m : ℕ) (a' b' : List ℕ) → Written ws a₀ b₀ n a b → Put r n a b m a' b'
    → n + cond r.on 1 0 ≤ length a₀ → n + cond r.on 1 0 ≤ length b₀ → Written (ws ++ closing r) a₀ b₀ m a' b'
put_more r ws a₀ b₀ a b n m a' b' h q f g =
    put_by r.on (record { first = r.first; last = r.last }) ws a₀ b₀ a b n m a' b' h q.count q.firsts q.lasts f g

same_length : (on : Bool) (a a' : List ℕ) (n x : ℕ) → a' ≡ cond on (set a n x) a → length a' ≡ length a
same_length true a a' n x h = ap length h ∙ length-set a n x
same_length false a a' n x h = ap length h

-- ── the loop ──

pub record Scanning (p : ℕ → Bool) (x : ℕ → ℕ) (k : ℕ) (a₀ b₀ a b : List ℕ) (n : ℕ) (run : Track) (i : ℕ) : Type 0 where
  pub upto : i ≤ k
  pub few : 2 * n + cond run.on 1 0 ≤ i
  pub going : run ≡ (scanned p x i).run
  pub put : Written (scanned p x i).done a₀ b₀ n a b
  pub len_a : length a ≡ length a₀
  pub len_b : length b ≡ length b₀
  pub room_a : (k + 1) / 2 ≤ length a₀
  pub room_b : (k + 1) / 2 ≤ length b₀

one : (b : Bool) → cond b 1 0 ≤ 1
one true = omega arith
one false = omega arith

module _ (p : ℕ → Bool) (x : ℕ → ℕ) (k : ℕ) (a₀ b₀ : List ℕ) where
  pub scan_none : (k + 1) / 2 ≤ length a₀ → (k + 1) / 2 ≤ length b₀ → Scanning p x k a₀ b₀ a₀ b₀ 0 shut 0
  scan_none f g =
      record {
        upto = omega arith;
        few = omega arith;
        going = refl;
        put = record { count = refl; firsts = refl; lasts = refl };
        len_a = refl;
        len_b = refl;
        room_a = f;
        room_b = g;
      }

  module _ (a b : List ℕ) (n : ℕ) (run : Track) (i : ℕ) (s : Scanning p x k a₀ b₀ a b n run i) where
    pub put_room : n + cond run.on 1 0 ≤ (k + 1) / 2
    put_room = omega (arith, s.few, s.upto, one run.on)

    seen_suc : i < k → p i ≡ true → Scanning p x k a₀ b₀ a b n (further_of run (x i)) (suc i)
    seen_suc l e =
        record {
          upto = l;
          few = omega (arith, s.few);
          going = rw e (ap (λ (r : Track). further_of r (x i)) s.going);
          put = rw e s.put;
          len_a = s.len_a;
          len_b = s.len_b;
          room_a = s.room_a;
          room_b = s.room_b;
        }

    unseen_suc : i < k → p i ≡ false → (m : ℕ) (a' b' : List ℕ) → Put run n a b m a' b' → Scanning p x k a₀ b₀ a' b' m shut (suc i)
    unseen_suc l e m a' b' q =
        record {
          upto = l;
          few = omega (arith, s.few, q.count, one run.on);
          going = rw e;
          put =
              rw (e, ← s.going)
              (put_more run (scanned p x i).done a₀ b₀ a b n m a' b' s.put q (omega (arith, put_room, s.room_a)) (omega (arith, put_room, s.room_b)));
          len_a = same_length run.on a a' n run.first q.firsts ∙ s.len_a;
          len_b = same_length run.on b b' n run.last q.lasts ∙ s.len_b;
          room_a = s.room_a;
          room_b = s.room_b;
        }

    pub scan_seen : i < k → true ≡ p i → (r : Track) → r ≡ further_of run (x i) → Scanning p x k a₀ b₀ a b n r (i + 1)
    scan_seen l e r h =
        let z : i + 1 ≡ suc i = omega arith in
        subst (λ (j : ℕ). Scanning p x k a₀ b₀ a b n r j) (sym z) (subst (λ (r : Track). Scanning p x k a₀ b₀ a b n r (suc i)) (sym h) (seen_suc l (sym e)))

    pub scan_unseen : i < k → false ≡ p i → (m : ℕ) (a' b' : List ℕ) → Put run n a b m a' b' → Scanning p x k a₀ b₀ a' b' m shut (i + 1)
    scan_unseen l e m a' b' q =
        let z : i + 1 ≡ suc i = omega arith in
        subst (λ (j : ℕ). Scanning p x k a₀ b₀ a' b' m shut j) (sym z) (unseen_suc l (sym e) m a' b' q)

    pub scan_done : k ≤ i → (m : ℕ) (a' b' : List ℕ) → Put run n a b m a' b' → Written (windows_to p x k) a₀ b₀ m a' b'
    scan_done l m a' b' q =
        let e : i ≡ k = omega (arith, s.upto) in
        subst (λ (j : ℕ). Written (windows_to p x j) a₀ b₀ m a' b') e
        (rw (← s.going)
        (put_more run (scanned p x i).done a₀ b₀ a b n m a' b' s.put q (omega (arith, put_room, s.room_a)) (omega (arith, put_room, s.room_b))))

    -- where the two branches join
    pub seen_join : (v : Bool) (q : Track) (a' b' : List ℕ) (n' : ℕ) (r : Track) → i < k → v ≡ p i → v ≡ true → q ≡ further_of run (x i) → a' ≡ a → b' ≡ b → n' ≡ n → r ≡ q
        → Scanning p x k a₀ b₀ a' b' n' r (i + 1)
    seen_join v q a' b' n' r l e t f ea eb en er = rw (ea, eb, en) (scan_seen l (sym t ∙ e) r (er ∙ f))

    pub unseen_join : (v : Bool) (m : ℕ) (c d : List ℕ) (a' b' : List ℕ) (n' : ℕ) (r : Track) → i < k → v ≡ p i → v ≡ false → Put run n a b m c d → a' ≡ c → b' ≡ d → n' ≡ m → r ≡ shut
        → Scanning p x k a₀ b₀ a' b' n' r (i + 1)
    unseen_join v m c d a' b' n' r l e t q ea eb en er = rw (ea, eb, en, er) (scan_unseen l (sym t ∙ e) m c d q)

    pub done_length : (m : ℕ) (a' b' : List ℕ) → Put run n a b m a' b' → (length a' ≡ length a₀) × (length b' ≡ length b₀)
    done_length m a' b' q = (same_length run.on a a' n run.first q.firsts ∙ s.len_a, same_length run.on b b' n run.last q.lasts ∙ s.len_b)
