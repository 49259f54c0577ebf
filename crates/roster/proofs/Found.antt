-- What a pass over a buffer and its row says of its records.
use Prim.Native.Nat.{ℕ, suc, ◌+◌, ◌≤◌}
use mathlib.Core.Path.{◌≡◌, refl, ap, sym, ◌∙◌}
use mathlib.Core.Bool.{Bool, true, false, cond}
use mathlib.Core.List.{List, [], ◌∷◌}
use mathlib.Core.Option.{Option, none, some}
use native.Mathlib.Omega.{arith}
use borrow.Author.Tests.{eq-eqb, ne_eqb}
use lib.Dec.{eqb, ltb}
use lib.ListN.{length, replicate}
use Rattle.tle.specs.declared.Record.{Record}
use Rattle.roster.specs.Records.{Rising, lookup}
use Rattle.roster.specs.Roster.{bytes_of, same, pairs_in, roster_of}
use Rattle.roster.specs.Row.{row_of, agreed, roster_with}
use Rattle.roster.specs.Scan.{start, tallied, tallies, resumed, row_in, scanned_of, scan_of, judged_of}
use Rattle.roster.specs.declared.scan.Tally.{Tally}
use Rattle.std.specs.Prelude.{None, Some}
use Rattle.roster.specs.declared.scan.Contents.{Contents}
use Rattle.roster.proofs.Sorted.{below}
use Rattle.roster.proofs.Decode.{roster_sound}
use Rattle.roster.proofs.Rows.{rows_exactly}

-- ── the tally of a list ──

counts : (t : Tally) (rs : List Record) → (tallies t rs).count ≡ t.count + length rs
unfolding tallies tallied
counts t [] = omega arith
counts t (r ∷ rs) = counts (tallied t r) rs ∙ omega arith

belows : (t : Tally) (rs : List Record) → (tallies t rs).below ≡ t.below + below t.number rs
unfolding tallies tallied below
belows t [] = omega arith
belows t (r ∷ rs) = belows (tallied t r) rs ∙ by (ltb r.number t.number) t.below (below t.number rs)
  where
    by : (x : Bool) (m n : ℕ) → cond x (m + 1) m + n ≡ m + cond x (suc n) n
    by true m n = omega arith
    by false m n = refl

-- whether a record was found
abbrev pub there : Option Record → Bool
there none = false
there (some r) = true

abbrev found_before : (p : Bool) (o : Option Record) → Bool
found_before p o = cond p true (there o)

presents : (t : Tally) (rs : List Record) → (tallies t rs).present ≡ found_before t.present (lookup t.number rs)
unfolding tallies tallied lookup
presents t [] = by t.present
  where
    by : (p : Bool) → p ≡ cond p true false
    by true = refl
    by false = refl
presents t (r ∷ rs) = presents (tallied t r) rs ∙ by (eqb r.number t.number) t.present (lookup t.number rs)
  where
    by : (x p : Bool) (o : Option Record) → found_before (cond x true p) o ≡ found_before p (cond x (some r) o)
    by true true o = refl
    by true false o = refl
    by false p o = refl

-- ── the answer of a pass ──

pub record Found (n : ℕ) (b row : List ℕ) (t : Tally) : Type 0 where
  pub records : List Record
  pub roster : roster_with b row ≡ some records
  pub bytes : b ≡ bytes_of records
  pub instants : row ≡ row_of records
  pub rising : Rising 0 records
  pub room : length records ≤ 64
  pub count : t.count ≡ length records
  pub place : t.below ≡ below n records
  pub present : t.present ≡ there (lookup n records)

from : (n : ℕ) (b row : List ℕ) (t : Tally) (o : Option (List Record)) → roster_with b row ≡ o → resumed (start n) o ≡ Some t → Found n b row t
from n b row t none e f = let z : ◌≡◌ {A = ℕ} 0 1 = cc in absurd (omega arith)
from n b row t (some rs) e f =
    let s : tallies (start n) rs ≡ t = cc in
    let k = (rows_exactly b row rs).0 e in
    let d = roster_sound b rs k.0 in
    record {
      records = rs;
      roster = e;
      bytes = d.bytes;
      instants = k.1;
      rising = d.rising;
      room = d.room;
      count = ap (λ (u : Tally). u.count) (sym s) ∙ counts (start n) rs ∙ omega arith;
      place = ap (λ (u : Tally). u.below) (sym s) ∙ belows (start n) rs ∙ omega arith;
      present = ap (λ (u : Tally). u.present) (sym s) ∙ presents (start n) rs;
    }

pub found : (n : ℕ) (b row : List ℕ) (t : Tally) → judged_of n b row ≡ Some t → Found n b row t
unfolding judged_of
found n b row t e = from n b row t (roster_with b row) refl e

lost : (n : ℕ) (o : Option (List Record)) → resumed (start n) o ≡ None → o ≡ none
lost n none e = refl
lost n (some rs) e = cc

pub no_roster : (n : ℕ) (b row : List ℕ) → judged_of n b row ≡ None → roster_with b row ≡ none
unfolding judged_of
no_roster n b row e = lost n (roster_with b row) e

-- ── the pass itself ──

pub off_length : (n : ℕ) (b : List ℕ) → (length b ≡ 8832 → ⊥) → record { found = None; row = replicate 64 0 } ≡ scan_of n b
unfolding scan_of roster_of
off_length n b h = rw (ne_eqb (length b) 8832 h)

pub of_length : (n : ℕ) (b : List ℕ) → length b ≡ 8832 → scanned_of n (pairs_in 64 0 b) ≡ scan_of n b
unfolding scan_of roster_of
of_length n b h = rw (eq-eqb (length b) 8832 h)

-- the records that a pass found, and their row
pub scan_found : (n : ℕ) (b : List ℕ) (s : Contents) (t : Tally) → s ≡ scan_of n b → s.found ≡ Some t → (rs : List Record) × (roster_of b ≡ some rs) × (s.row ≡ row_of rs)
unfolding scan_of
scan_found n b s t e f = by (roster_of b) refl (sym (ap (λ (u : Contents). u.found) e) ∙ f) (ap (λ (u : Contents). u.row) e)
  where
    by : (o : Option (List Record)) → roster_of b ≡ o → resumed (start n) o ≡ Some t → s.row ≡ row_in o → (rs : List Record) × (roster_of b ≡ some rs) × (s.row ≡ row_of rs)
    by none g h k = let z : ◌≡◌ {A = ℕ} 0 1 = cc in absurd (omega arith)
    by (some rs) g h k = (rs, g, k)

pub scan_lost : (n : ℕ) (b : List ℕ) (s : Contents) → s ≡ scan_of n b → s.found ≡ None → roster_of b ≡ none
unfolding scan_of
scan_lost n b s e f = lost n (roster_of b) (sym (ap (λ (u : Contents). u.found) e) ∙ f)

-- ── the row beside it ──

module _ (n : ℕ) (b row : List ℕ) (s : Contents) (scanned' : s ≡ scan_of n b) (x : Bool) (tested : x ≡ same row s.row) where
  judged_by_lem : (o : Option (List Record)) → s.found ≡ resumed (start n) o → s.row ≡ row_in o → (x ≡ true → s.found ≡ resumed (start n) (agreed row o)) × (x ≡ false → None ≡ resumed (start n) (agreed row o))
  judged_by_lem none e f = (λ h. e, λ h. refl)
  judged_by_lem (some rs) e f =
      let q : same row (row_of rs) ≡ x = sym (tested ∙ ap (same row) f) in
      (λ h. rw (q, h) e, λ h. rw (q, h))

  judged : (x ≡ true → s.found ≡ judged_of n b row) × (x ≡ false → None ≡ judged_of n b row)
  unfolding scan_of judged_of roster_with
  judged = judged_by_lem (roster_of b) (ap (λ (u : Contents). u.found) scanned') (ap (λ (u : Contents). u.row) scanned')

  pub judged_agreeing : x ≡ true → s.found ≡ judged_of n b row
  judged_agreeing h = judged.0 h

  pub judged_apart : x ≡ false → None ≡ judged_of n b row
  judged_apart h = judged.1 h
