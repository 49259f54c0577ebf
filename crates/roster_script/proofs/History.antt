-- A history of accepted calls: what stands under a number after it, by each call in turn and in the words of specs/Total.
use Prim.Native.Nat.{ℕ}
use mathlib.Core.Path.{◌≡◌, refl, ap, sym, ◌∙◌}
use mathlib.Core.Bool.{Bool, true, false, cond}
use mathlib.Core.List.{List, [], ◌∷◌, ◌++◌}
use mathlib.Core.Option.{Option, none, some, some-injective, none-ne-some}
use native.Mathlib.Omega.{arith}
use borrow.Author.Tests.{eq-eqb, ne_eqb, eqb-true, eqb-false}
use lib.Dec.{eqb}
use Rattle.tle.specs.Read.{read_of}
use Rattle.tle.specs.declared.Record.{Record}
use Rattle.std.specs.Prelude.{Err, Ok, Result}
use Rattle.tle.specs.declared.Refusal.{Refusal}
use Rattle.roster_script.specs.Total.{Call, Lodge, Withdraw, Fill, Lodges, Withdraws, NoCall, LodgedIn, NotSinceWithdrawn, LastAccepted}

-- ── what stands under n, call by call ──

abbrev pub lodges_over : ℕ → Result Record Refusal → Option Record → Option Record
lodges_over n (Ok r) o = cond (eqb r.number n) (some r) o
lodges_over n (Err why) o = o

-- after an accepted call, where o stood before it
abbrev pub effect : ℕ → Call → Option Record → Option Record
effect n (Lodge line1 line2) o = lodges_over n (read_of line1 line2) o
effect n (Withdraw m) o = cond (eqb m n) none o
effect n Fill o = o

unfoldable pub standing : ℕ → List Call → Option Record → Option Record
standing n [] o = o
standing n (c ∷ cs) o = standing n cs (effect n c o)

pub standing_append : (n : ℕ) (cs ds : List Call) (o : Option Record) → standing n (cs ++ ds) o ≡ standing n ds (standing n cs o)
unfolding standing
standing_append n [] ds o = refl
standing_append n (c ∷ cs) ds o = standing_append n cs ds (effect n c o)

-- ── from what stands to the history ──

-- the last lodging of r for n, with no call for n behind it
record Last (n : ℕ) (r : Record) (h : List Call) : Type 0 where
  pub later : List Call
  pub number : r.number ≡ n
  pub lodged : LodgedIn h r later
  pub not_withdrawn : NoCall (Withdraws n) later
  pub not_lodged : (s : Record) → s.number ≡ n → NoCall (Lodges s) later

-- r stood before the history, and no call of it is for n; or r was lodged in it
data Came (n : ℕ) (r : Record) (o : Option Record) (h : List Call) : Type 0 where
  before : o ≡ some r → NoCall (Withdraws n) h → ((s : Record) → s.number ≡ n → NoCall (Lodges s) h) → Came n r o h
  within : Last n r h → Came n r o h

-- one call more in front
module _ (n : ℕ) (r : Record) (h : List Call) where
  lodged_before : (c : Call) (o : Option Record) → Last n r h → Came n r o (c ∷ h)
  lodged_before c o L = within (record {
    later = L.later;
    number = L.number;
    lodged = record {
      earlier = c ∷ L.lodged.earlier;
      call = L.lodged.call;
      lodges = L.lodged.lodges;
      order = ap (λ (t : List Call). c ∷ t) L.lodged.order;
    };
    not_withdrawn = L.not_withdrawn;
    not_lodged = L.not_lodged;
  })

  module _ (w : NoCall (Withdraws n) h) (l : (s : Record) → s.number ≡ n → NoCall (Lodges s) h) (o : Option Record) where
    by_withdrawal : (x : Bool) (m : ℕ) → eqb m n ≡ x → cond x none o ≡ some r → Came n r o (Withdraw m ∷ h)
    by_withdrawal true m e f = absurd (none-ne-some r f)
    by_withdrawal false m e f = before f (eqb-false m n e, w) (λ s q. (λ z. z, l s q))

    by_number : (x : Bool) (q : Record) (line1 line2 : List ℕ) → read_of line1 line2 ≡ Ok q → eqb q.number n ≡ x
        → cond x (some q) o ≡ some r → Came n r o (Lodge line1 line2 ∷ h)
    by_number true q line1 line2 g e f =
        let i = some-injective q r f in
        within (record {
          later = h;
          number = ap (λ (s : Record). s.number) (sym i) ∙ eqb-true q.number n e;
          lodged = record { earlier = []; call = Lodge line1 line2; lodges = g ∙ ap Ok i; order = refl };
          not_withdrawn = w;
          not_lodged = l;
        })
    by_number false q line1 line2 g e f =
        before f (λ z. z, w) (λ s k. (λ z. eqb-false q.number n e (ap number_read (sym g ∙ z) ∙ k), l s k))
      where
        number_read : Result Record Refusal → ℕ
        number_read (Ok s) = s.number
        number_read (Err why) = 0

    by_reading : (g : Result Record Refusal) (line1 line2 : List ℕ) → read_of line1 line2 ≡ g → lodges_over n g o ≡ some r → Came n r o (Lodge line1 line2 ∷ h)
    by_reading (Ok q) line1 line2 e f = by_number (eqb q.number n) q line1 line2 e refl f
    by_reading (Err why) line1 line2 e f = before f (λ z. z, w) (λ s k. (λ z. unread (sym e ∙ z), l s k))
      where
        unread : {s : Record} → Err why ≡ Ok s → ⊥
        unread e = let z : ◌≡◌ {A = ℕ} 0 1 = cc in absurd (omega arith)

    by_call : (c : Call) → effect n c o ≡ some r → Came n r o (c ∷ h)
    by_call (Lodge line1 line2) f = by_reading (read_of line1 line2) line1 line2 refl f
    by_call (Withdraw m) f = by_withdrawal (eqb m n) m refl f
    by_call Fill f = before f (λ z. z, w) (λ s k. (λ z. z, l s k))

came_more : (n : ℕ) (r : Record) (c : Call) (h : List Call) (o : Option Record) → Came n r (effect n c o) h → Came n r o (c ∷ h)
came_more n r c h o (before e w l) = by_call n r h w l o c e
came_more n r c h o (within L) = lodged_before n r h c o L

came : (n : ℕ) (r : Record) (h : List Call) (o : Option Record) → standing n h o ≡ some r → Came n r o h
unfolding standing
came n r [] o e = before e tt (λ s k. tt)
came n r (c ∷ h) o e = came_more n r c h o (came n r h (effect n c o) e)

from_none : (n : ℕ) (r : Record) (h : List Call) → Came n r none h → Last n r h
from_none n r h (before e w l) = absurd (none-ne-some r e)
from_none n r h (within L) = L

pub last_accepted : (n : ℕ) (r : Record) (h : List Call) → standing n h none ≡ some r → LastAccepted n r h
last_accepted n r h e =
    let L = from_none n r h (came n r h none e) in
    record { later = L.later; number = L.number; lodged = L.lodged; last = L.not_lodged }

pub not_since_withdrawn : (n : ℕ) (r : Record) (h : List Call) → standing n h none ≡ some r → NotSinceWithdrawn n h
not_since_withdrawn n r h e =
    let L = from_none n r h (came n r h none e) in
    record { pair = r; later = L.later; number = L.number; lodged = L.lodged; since = L.not_withdrawn }

-- ── and back ──

-- without a withdrawal some pair goes on standing
still_read : (n : ℕ) (g : Result Record Refusal) (r : Record) → (s : Record) × (lodges_over n g (some r) ≡ some s)
still_read n (Ok q) r = by (eqb q.number n)
  where
    by : (x : Bool) → (s : Record) × (cond x (some q) (some r) ≡ some s)
    by true = (q, refl)
    by false = (r, refl)
still_read n (Err why) r = (r, refl)

still_one : (n : ℕ) (c : Call) (r : Record) → (Withdraws n c → ⊥) → (s : Record) × (effect n c (some r) ≡ some s)
still_one n (Lodge line1 line2) r h = still_read n (read_of line1 line2) r
still_one n (Withdraw m) r h = (r, rw (ne_eqb m n h))
still_one n Fill r h = (r, refl)

still : (n : ℕ) (h : List Call) (r : Record) → NoCall (Withdraws n) h → (s : Record) × (standing n h (some r) ≡ some s)
unfolding standing
still n [] r w = (r, refl)
still n (c ∷ h) r w =
    let p = still_one n c r w.0 in
    let q = still n h p.0 w.1 in
    (q.0, ap (standing n h) p.1 ∙ q.1)

-- a lodging of r for n makes it stand
lodged_stands : (n : ℕ) (r : Record) (c : Call) (o : Option Record) → Lodges r c → r.number ≡ n → effect n c o ≡ some r
lodged_stands n r (Lodge line1 line2) o g e = rw (g, eq-eqb r.number n e)
lodged_stands n r (Withdraw m) o g e = absurd g
lodged_stands n r Fill o g e = absurd g

pub stands : (n : ℕ) (h : List Call) → NotSinceWithdrawn n h → (s : Record) × (standing n h none ≡ some s)
unfolding standing
stands n h N =
    let L = N.lodged in
    let q = still n N.later N.pair N.since in (
      q.0,
      ap (λ (t : List Call). standing n t none) L.order
          ∙ standing_append n L.earlier (L.call ∷ N.later) none
          ∙ ap (standing n N.later) (lodged_stands n N.pair L.call (standing n L.earlier none) L.lodges N.number)
          ∙ q.1,
    )
