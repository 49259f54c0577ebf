-- The row of a roster: how a pass stores it, and that a buffer and a row hold a roster together exactly if the row is its own.
use Prim.Native.Nat.{ℕ, zero, suc, ◌+◌, ◌-◌, ◌*◌, ◌<◌, ◌≤◌}
use mathlib.Core.Path.{◌≡◌, refl, ap, sym, ◌∙◌}
use mathlib.Core.Bool.{Bool, true, false, cond}
use mathlib.Core.List.{List, [], ◌∷◌, ◌++◌, flat_map}
use mathlib.Core.Option.{Option, none, some, some-injective, none-ne-some}
use native.Mathlib.Omega.{arith}
use lib.ListN.{length, drop, get_elem?, replicate, length-append}
use lib.Seq.{append_snoc, set_at}
use Rattle.tle.specs.declared.Record.{Record}
use Rattle.roster.specs.Packed.{packed}
use Rattle.roster.specs.Records.{instant_of}
use Rattle.roster.specs.Roster.{same, pairs_in, roster_of, is_none}
use Rattle.roster.specs.Row.{instant_at, row_of, agreed, roster_with}
use Rattle.roster.specs.Scan.{start, scanned_of}
use Rattle.roster.specs.Claims.{RowsExactly, RowsRead, RowsEnd}
use Rattle.roster.proofs.Tests.{same_equal, same_refl}
use Rattle.roster.proofs.Packing.{length_packed, one_more, place_of_lem}
use Rattle.roster.proofs.Passes.{stored, passing, At}
use Rattle.roster.proofs.Decode.{pairs_sound, places_read}

-- ── what a pass stores ──

-- records behind the instants xs, in k places that are zeros
stored_all : (k : ℕ) (xs : List ℕ) (rs : List Record) → length rs ≤ k → stored (length xs) rs (xs ++ replicate k 0) ≡ xs ++ packed instant_at 1 k rs
unfolding stored packed flat_map
stored_all k xs [] h = let e : (k - 0) * 1 ≡ k = omega arith in rw e
stored_all zero xs (r ∷ rs) h = absurd (omega arith)
stored_all (suc k) xs (r ∷ rs) h =
    let v = instant_of r in
    let long : length (xs ++ v ∷ []) ≡ length xs + 1 = length-append xs (v ∷ []) ∙ omega arith in
    ap (stored (length xs + 1) rs) (set_at xs 0 (replicate k 0) v (length xs) refl ∙ sym (append_snoc xs v (replicate k 0)))
    ∙ ap (λ (n : ℕ). stored n rs (xs ++ v ∷ [] ++ replicate k 0)) (sym long)
    ∙ stored_all k (xs ++ v ∷ []) rs (omega arith)
    ∙ append_snoc xs v (packed instant_at 1 k rs)
    ∙ ap (λ (t : List ℕ). xs ++ t) (sym (one_more instant_at 1 (λ q. refl) k r rs))

stored_row : (rs : List Record) → length rs ≤ 64 → stored 0 rs (replicate 64 0) ≡ row_of rs
stored_row rs h = stored_all 64 [] rs h

-- a pass begins with nothing counted and zeros
pub starting : (b : List ℕ) (n : ℕ) → length b ≡ 8832 → At b n 0 (start n) (replicate 64 0)
starting b n h = by (pairs_in 64 0 b) refl
  where
    by : (o : Option (List Record)) → pairs_in 64 0 b ≡ o → scanned_of n o ≡ passing (start n) 0 (replicate 64 0) o
    by none e = refl
    by (some rs) e = rw (stored_row rs (pairs_sound 64 0 b rs h e).room)

-- ── a buffer and the row beside it ──

pub long_row : (rs : List Record) → length rs ≤ 64 → length (row_of rs) ≡ 64
long_row rs h = length_packed instant_at 1 (λ q. refl) 64 rs h

by_row : (x : Bool) (row : List ℕ) (qs rs : List Record) → same row (row_of qs) ≡ x → cond x (some qs) none ≡ some rs → (some qs ≡ some rs) × (row ≡ row_of rs)
by_row true row qs rs e f = (f, same_equal row (row_of qs) e ∙ ap row_of (some-injective qs rs f))
by_row false row qs rs e f = absurd (none-ne-some rs f)

by_roster : (o : Option (List Record)) (row : List ℕ) (rs : List Record) → agreed row o ≡ some rs → (o ≡ some rs) × (row ≡ row_of rs)
by_roster none row rs f = absurd (none-ne-some rs f)
by_roster (some qs) row rs f = by_row (same row (row_of qs)) row qs rs refl f

pub rows_exactly : RowsExactly
unfolding roster_with
rows_exactly b row rs = (λ e. by_roster (roster_of b) row rs e, λ k. rw (k.0, k.1, same_refl (row_of rs)))

-- what is found with the row is what the buffer holds
pub with_row : (b row : List ℕ) → is_none (roster_with b row) ≡ false → roster_with b row ≡ roster_of b
unfolding roster_with
with_row b row h = by (roster_of b) h
  where
    by_same : (x : Bool) (rs : List Record) → is_none (cond x (some rs) none) ≡ false → cond x (some rs) none ≡ some rs
    by_same true rs e = refl
    by_same false rs e = cc

    by : (o : Option (List Record)) → is_none (agreed row o) ≡ false → agreed row o ≡ o
    by none e = refl
    by (some rs) e = by_same (same row (row_of rs)) rs e

-- ── what stands in it ──

element : (l : List ℕ) (i v : ℕ) (t : List ℕ) → drop i l ≡ v ∷ t → get_elem? l i ≡ some v
element [] zero v t e = cc
element [] (suc i) v t e = cc
element (x ∷ l) zero v t e = cc
element (x ∷ l) (suc i) v t e = element l i v t e

pub row_at : (rs : List Record) (i : ℕ) (r : Record) → get_elem? rs i ≡ some r → get_elem? (row_of rs) i ≡ some (instant_of r)
unfolding packed
row_at rs i r e =
    let p = place_of_lem instant_at 1 (λ q. refl) rs (replicate ((64 - length rs) * 1) 0) i r e in
    let o : i * 1 ≡ i = omega arith in
    element (row_of rs) i (instant_of r) p.0 (rw o at p.1)

pub rows_read : RowsRead
rows_read b row rs i r e g =
    let k = (rows_exactly b row rs).0 e in
    (places_read b rs i r k.0 g, ap (λ (l : List ℕ). get_elem? l i) k.1 ∙ row_at rs i r g)

past_the_last : (k : ℕ) (rs : List Record) (i : ℕ) → length rs ≤ i → i < k → get_elem? (packed instant_at 1 k rs) i ≡ some 0
unfolding packed flat_map
past_the_last k [] i h g = zeros ((k - 0) * 1) i (omega arith)
  where
    zeros : (n j : ℕ) → j < n → get_elem? {A = ℕ} (replicate n 0) j ≡ some 0
    zeros zero j q = absurd (omega arith)
    zeros (suc n) zero q = refl
    zeros (suc n) (suc j) q = zeros n j (omega arith)
past_the_last zero (r ∷ rs) i h g = absurd (omega arith)
past_the_last (suc k) (r ∷ rs) zero h g = absurd (omega arith)
past_the_last (suc k) (r ∷ rs) (suc i) h g =
    ap (λ (l : List ℕ). get_elem? l (suc i)) (one_more instant_at 1 (λ q. refl) k r rs) ∙ past_the_last k rs i (omega arith) (omega arith)

pub rows_end : RowsEnd
rows_end b row rs i e h g = ap (λ (l : List ℕ). get_elem? l i) ((rows_exactly b row rs).0 e).1 ∙ past_the_last 64 rs i h g
