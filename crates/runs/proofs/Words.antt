-- Windows are the runs of visible samples that can't be made longer, each once, in time order.
use mathlib.Core.Path.{◌≡◌, refl, sym, ap, ◌∙◌, subst}
use mathlib.Core.Bool.{Bool, true, false, cond, false≢true}
use mathlib.Core.Logic.{◌⊎◌, inl, inr}
use mathlib.Core.List.{List, [], ◌∷◌}
use Prim.Native.Nat.{ℕ, suc, ◌+◌, ◌≤◌, ◌<◌}
use native.Mathlib.Omega.{arith}
use lib.ListN.{length, get_or, drop}
use lib.Seq.{get_or-drop, drop-drop}
use lib.Dec.{ltb}
use borrow.Author.Tests.{ltb-true, ltb-false}
use Rattle.runs.specs.Runs.{Sample, Window, windows_from}
use Rattle.runs.specs.Words.{Every, ExactlyOne, InOrder, Whole, Lies, Claim, sample_at, InWords}
use Rattle.runs.proofs.Room.{Run, closed, going, end, further, runs, loops}

impossible : {A : Type 0} → ⊥ → A
impossible = elim [ ]

less_by : (b : Bool) (m k : ℕ) → ltb m k ≡ b → (m < k) ⊎ (k ≤ m)
less_by true m k h = inl (ltb-true m k h)
less_by false m k h = inr (ltb-false m k h)

less : (m k : ℕ) → (m < k) ⊎ (k ≤ m)
less m k = less_by (ltb m k) m k refl

each_of : {q r : Window → Type 0} (ws : List Window) → ((w : Window) → q w → r w) → Every q ws → Every r ws
each_of [] f h = tt
each_of (w ∷ ws) f h = (f w h.0, each_of ws f h.1)

-- ── by indexes ──

-- samples agree with p and x, from the i-th on
abbrev At : (ℕ → Bool) → (ℕ → ℕ) → ℕ → List Sample → Type 0
At p x i [] = Unit {0}
At p x i (s ∷ ss) = (s.visible ≡ p i) × ((s.instant ≡ x i) × At p x (suc i) ss)

module _ (p : ℕ → Bool) (x : ℕ → ℕ) (n : ℕ) (rise : (a b : ℕ) → a < b → b < n → x a < x b) where
  rise_by : (a b : ℕ) → (a < b) ⊎ (b ≤ a) → a ≤ b → b < n → x a ≤ x b
  rise_by a b (inl h) l g = omega (arith, rise a b h g)
  rise_by a b (inr h) l g = let e : a ≡ b = omega arith in omega (arith, ap x e)

  rises : (a b : ℕ) → a ≤ b → b < n → x a ≤ x b
  rises a b l g = rise_by a b (less a b) l g

  -- a window whose first sample is the u-th or later
  record Since (u : ℕ) (w : Window) : Type 0 where
    whole : Whole p x n w
    low : u ≤ whole.from

  record Good (u : ℕ) (ws : List Window) : Type 0 where
    each : Every (Since u) ws
    once : (m : ℕ) → u ≤ m → m < n → p m ≡ true → ExactlyOne (Lies x m) ws
    order : InOrder ws

  -- the run from the u-th sample on is open before sample i
  record Opened (a b i u : ℕ) : Type 0 where
    to : ℕ
    next : suc to ≡ i
    first : a ≡ x u
    last : b ≡ x to
    ordered : u ≤ to
    visible : (m : ℕ) → u ≤ m → m ≤ to → p m ≡ true
    before : (m : ℕ) → suc m ≡ u → p m ≡ false

  abbrev Open : Run → ℕ → ℕ → Type 0
  Open closed i u = (u ≡ i) × ((m : ℕ) → suc m ≡ u → p m ≡ false)
  Open (going a b) i u = Opened a b i u

  -- ── windows further on ──

  weaken : (u i : ℕ) (ws : List Window) → u ≤ i → Every (Since i) ws → Every (Since u) ws
  weaken u i ws l h = each_of ws (λ w. λ s. record { whole = s.whole; low = omega (arith, s.low) }) h

  begins : (j i : ℕ) (w : Window) → j < i → Since i w → x j < w.first
  begins j i w l s =
      let g = s.whole.longest in
      let r : x j < x s.whole.from = rise j s.whole.from (omega (arith, s.low)) (omega (arith, g.ordered, g.inside)) in
      omega (arith, r, s.whole.first)

  later_begin : (j i : ℕ) (ws : List Window) → j < i → Every (Since i) ws → Every (λ w. x j < w.first) ws
  later_begin j i ws l h = each_of ws (λ w. λ s. begins j i w l s) h

  none_lies : (m i : ℕ) (ws : List Window) → m < i → Every (Since i) ws → Every (λ w. Lies x m w → ⊥) ws
  none_lies m i ws l h = each_of ws (λ w. λ s. λ y. omega (arith, begins m i w l s, y.0)) h

  -- ── no sample is left ──

  empty : (i : ℕ) → n ≤ i → Good i []
  empty i l = record { each = tt; once = λ m. λ h. λ g. λ v. omega arith; order = tt }

  -- ── a sample that is not visible ──

  skip_once : (i m : ℕ) (ws : List Window) → p i ≡ false → Good (suc i) ws → i ≤ m → m < n → p m ≡ true → (i < m) ⊎ (m ≤ i) → ExactlyOne (Lies x m) ws
  skip_once i m ws h s l g v (inl y) = s.once m y g v
  skip_once i m ws h s l g v (inr y) = let e : m ≡ i = omega arith in impossible (false≢true (sym h ∙ ap p (sym e) ∙ v))

  skip : (i : ℕ) (ws : List Window) → p i ≡ false → Good (suc i) ws → Good i ws
  skip i ws h s =
      record { each = weaken i (suc i) ws (omega arith) s.each; once = λ m. λ l. λ g. λ v. skip_once i m ws h s l g v (less i m); order = s.order }

  -- ── a run that ends ──

  module _ (a b i u : ℕ) (o : Opened a b i u) (l : i ≤ n) (h : i < n → p i ≡ false) (ws : List Window) (s : Good i ws) where
    abbrev w : Window
    w = record { first = a; last = b }

    ended : Since u w
    ended =
        record {
          whole =
              record {
                from = u;
                to = o.to;
                first = o.first;
                last = o.last;
                longest =
                    record {
                      ordered = o.ordered;
                      inside = omega (arith, o.next);
                      visible = o.visible;
                      before = o.before;
                      after = λ y. ap p o.next ∙ h (omega (arith, o.next));
                    };
              };
          low = omega arith;
        }

    once_by : (m : ℕ) → u ≤ m → m < n → p m ≡ true → (m < i) ⊎ (i ≤ m) → ExactlyOne (Lies x m) (w ∷ ws)
    once_by m g k v (inl y) =
        inl (
          (omega (arith, rises u m g k, o.first), omega (arith, rises m o.to (omega (arith, o.next)) (omega (arith, o.next)), o.last)),
          none_lies m i ws y s.each,
        )
    once_by m g k v (inr y) = inr (λ z. omega (arith, z.1, o.last, rise o.to m (omega (arith, o.next)) k), s.once m y k v)

    put : Good u (record { first = a; last = b } ∷ ws)
    put =
        record {
          each = (ended, weaken u i ws (omega (arith, o.next, o.ordered)) s.each);
          once = λ m. λ g. λ k. λ v. once_by m g k v (less m i);
          order =
              (each_of ws (λ v. λ y. omega (arith, y, o.last)) (later_begin o.to i ws (omega (arith, o.next)) s.each), s.order);
        }

  -- ── a run that begins, or goes on ──

  longer : (to m i u : ℕ) → suc to ≡ i → ((m : ℕ) → u ≤ m → m ≤ to → p m ≡ true) → p i ≡ true → u ≤ m → m ≤ i → (m < i) ⊎ (i ≤ m) → p m ≡ true
  longer to m i u e f v g k (inl y) = f m g (omega arith)
  longer to m i u e f v g k (inr y) = let z : m ≡ i = omega arith in ap p z ∙ v

  grown : (o : Run) (i u t : ℕ) → Open o i u → p i ≡ true → t ≡ x i → Open (further o t) (suc i) u
  grown closed i u t o v e =
      record {
        to = i;
        next = refl;
        first = e ∙ ap x (sym o.0);
        last = e;
        ordered = omega (arith, o.0);
        visible = λ m. λ g. λ k. (let z : m ≡ i = omega (arith, o.0) in ap p z ∙ v);
        before = o.1;
      }
  grown (going a b) i u t o v e =
      record {
        to = i;
        next = refl;
        first = o.first;
        last = e;
        ordered = omega (arith, o.ordered, o.next);
        visible = λ m. λ g. λ k. longer o.to m i u o.next o.visible v g k (less m i);
        before = o.before;
      }

  shut : (o : Run) (i u : ℕ) (ws : List Window) → Open o i u → i ≤ n → (i < n → p i ≡ false) → Good i ws → Good u (end o ws)
  shut closed i u ws o l h s = subst (λ (k : ℕ). Good k ws) (sym o.0) s
  shut (going a b) i u ws o l h s = put a b i u o l h ws s

  sample_by : (v : Bool) (o : Run) (i u : ℕ) (s : Sample) (ss : List Sample) → Open o i u → p i ≡ v → s.instant ≡ x i → i < n
      → ((r : Run) (k : ℕ) → Open r (suc i) k → Good k (runs r ss))
      → Good u (cond v (runs (further o s.instant) ss) (end o (runs closed ss)))
  sample_by true o i u s ss a v e l f = f (further o s.instant) u (grown o i u s.instant a v e)
  sample_by false o i u s ss a v e l f =
      shut o i u (runs closed ss) a (omega arith) (λ y. v)
      (skip i (runs closed ss) v (f closed (suc i) (refl, λ m. λ z. (let y : m ≡ i = omega arith in ap p y ∙ v))))

  good : (o : Run) (i u : ℕ) (ss : List Sample) → Open o i u → At p x i ss → i + length ss ≡ n → Good u (runs o ss)
  good o i u [] a h e = shut o i u [] a (omega arith) (λ y. impossible (omega arith)) (empty i (omega arith))
  good o i u (s ∷ ss) a h e =
      subst (λ (v : Bool). Good u (cond v (runs (further o s.instant) ss) (end o (runs closed ss)))) (sym h.0)
      (sample_by (p i) o i u s ss a refl h.1.0 (omega arith) (λ r. λ k. λ b. good r (suc i) k ss b h.1.1 (omega arith)))

  -- an instant inside a window is that of a visible sample
  out_by : (m : ℕ) (w : Window) (s : Whole p x n w) → m < n → p m ≡ false → Lies x m w → (m < s.from) ⊎ (s.from ≤ m) → (s.to < m) ⊎ (m ≤ s.to) → ⊥
  out_by m w s l h y (inl a) b =
      omega (arith, y.0, s.first, rise m s.from a (omega (arith, s.longest.ordered, s.longest.inside)))
  out_by m w s l h y (inr a) (inl b) = omega (arith, y.1, s.last, rise s.to m b l)
  out_by m w s l h y (inr a) (inr b) = false≢true (sym h ∙ s.longest.visible m a b)

  pub claimed : (ss : List Sample) → At p x 0 ss → length ss ≡ n → Claim p x n (windows_from false ss)
  claimed ss h e =
      let g : Good 0 (windows_from false ss) =
      subst (λ (ws : List Window). Good 0 ws) (loops ss) (good closed 0 0 ss (refl, λ m. λ z. impossible (omega arith)) h (omega arith)) in
      let w : Every (Whole p x n) (windows_from false ss) = each_of (windows_from false ss) (λ v. λ s. s.whole) g.each in
      record {
        whole = w;
        once = λ m. λ l. λ v. g.once m (omega arith) l v;
        never = λ m. λ l. λ v. each_of (windows_from false ss) (λ w. λ s. λ y. out_by m w s l v y (less m s.from) (less s.to m)) w;
        order = g.order;
      }

-- ── a list of samples ──

abbrev none : Sample
none = record { instant = 0; visible = false }

at_list : (all : List Sample) (i : ℕ) (ss : List Sample) → drop i all ≡ ss → At (λ m. (sample_at all m).visible) (λ m. (sample_at all m).instant) i ss
at_list all i [] h = tt
at_list all i (s ∷ ss) h =
    let z : i + 0 ≡ i = omega arith in
    let y : i + 1 ≡ suc i = omega arith in
    let e : sample_at all i ≡ s = ap (sample_at all) (sym z) ∙ sym (get_or-drop i all 0 none) ∙ ap (λ l. get_or l 0 none) h in
    (ap (λ r. r.visible) (sym e), (ap (λ r. r.instant) (sym e), at_list all (suc i) ss (ap (λ j. drop j all) (sym y) ∙ sym (drop-drop 1 i all) ∙ ap (drop 1) h)))

-- every window is a run of visible samples whose neighbours are not; every visible sample lies in exactly one of them, no other sample in any; and
-- they are in time order
pub in_words : InWords
in_words ss rise =
    claimed (λ m. (sample_at ss m).visible) (λ m. (sample_at ss m).instant) (length ss) rise ss (at_list ss 0 ss refl) refl
