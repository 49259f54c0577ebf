-- Which bytes are a roster: exactly those of some records by rising number, at most 64.
use Prim.Native.Nat.{ℕ, zero, suc, ◌+◌, ◌-◌, ◌*◌, ◌≤◌}
use mathlib.Core.Path.{◌≡◌, refl, ap, sym, ◌∙◌}
use mathlib.Core.Bool.{Bool, true, false, cond}
use mathlib.Core.List.{List, [], ◌∷◌, ◌++◌, flat_map}
use mathlib.Core.Option.{Option, none, some, some-injective, none-ne-some}
use native.Mathlib.Omega.{arith}
use borrow.Author.Tests.{eq-eqb, eqb-true, leb-true}
use lib.Dec.{eqb, leb}
use lib.ListN.{length, take, drop, replicate, get_elem?, length-drop, take-append-drop}
use lib.Seq.{take_at, drop_at}
use Rattle.tle.specs.Legal.{legal}
use Rattle.tle.specs.Read.{read_of}
use Rattle.tle.specs.declared.Record.{Record}
use Rattle.roster.specs.Packed.{packed}
use Rattle.roster.specs.Records.{Rising, end, next}
use Rattle.roster.specs.Roster.{pair_bytes, bytes_of, all_zero, place_of, in_front, followed, pairs_in, roster_of}
use Rattle.roster.specs.Claims.{RostersExactly, read_at, PlacesRead}
use Rattle.std.specs.Prelude.{None, Option as Optional, Some}
use Rattle.roster.proofs.Tests.{zero_replicate, replicate_zero}
use Rattle.roster.proofs.Pairs.{length_pair, read_front, place_back, place_sound, pair_nonzero}
use Rattle.roster.proofs.Passes.{ended, paired}
use Rattle.roster.proofs.Packing.{length_packed, one_more, place_of_lem}

abbrev pub places : ℕ → List Record → List ℕ
places k rs = packed pair_bytes 138 k rs

-- ── from records to bytes and back ──

pub pairs_back : (k : ℕ) {low : ℕ} {rs : List Record} → Rising low rs → length rs ≤ k → pairs_in k low (places k rs) ≡ some rs
unfolding packed flat_map
pairs_back k {low = low} end h = ended k low (replicate ((k - 0) * 138) 0) (replicate_zero ((k - 0) * 138))
pairs_back zero (next g l q) h = absurd (omega arith)
pairs_back (suc k) {low = low} (next {r = r} {rs = rs} g l q) h =
    let b = pair_bytes r ++ places k rs in
    rw (one_more pair_bytes 138 length_pair k r rs)
    (paired k low b (pair_nonzero r (places k rs)) r (ap place_of (take_at (pair_bytes r) (places k rs) 138 (length_pair r)) ∙ place_back r l) g
    ∙ ap (λ (d : List ℕ). in_front r (pairs_in k (r.number + 1) d)) (drop_at (pair_bytes r) (places k rs) 138 (length_pair r))
    ∙ ap (in_front r) (pairs_back k q (omega arith)))

pub roster_back : (rs : List Record) → Rising 0 rs → length rs ≤ 64 → roster_of (bytes_of rs) ≡ some rs
unfolding roster_of
roster_back rs q h =
    rw (eq-eqb (length (bytes_of rs)) 8832 (length_packed pair_bytes 138 length_pair 64 rs h)) (pairs_back 64 q h)

-- ── from bytes to records and back ──

pub record Decoded (k low : ℕ) (b : List ℕ) (rs : List Record) : Type 0 where
  pub bytes : b ≡ places k rs
  pub rising : Rising low rs
  pub room : length rs ≤ k

nothing : (k low : ℕ) (b : List ℕ) (rs : List Record) → length b ≡ k * 138 → b ≡ replicate (length b) 0 → some [] ≡ some rs → Decoded k low b rs
unfolding packed flat_map
nothing k low b rs long zeros e =
    let n = some-injective [] rs e in
    rw (← n) (record {
      bytes = zeros ∙ ap (λ (m : ℕ). replicate m 0) (let f : length b ≡ (k - 0) * 138 = omega arith in f);
      rising = end;
      room = omega arith;
    })

-- a place r in front of the records qs of the others
in_front_lem : (k low : ℕ) (b : List ℕ) (r : Record) (qs rs : List Record) → 138 ≤ length b → place_of (take 138 b) ≡ Some r → low ≤ r.number
    → Decoded k (r.number + 1) (drop 138 b) qs → some (r ∷ qs) ≡ some rs → Decoded (suc k) low b rs
in_front_lem k low b r qs rs long p h d e =
    let n = some-injective (r ∷ qs) rs e in
    let s = place_sound (take 138 b) r p in
    rw (← n) (record {
      bytes = sym (take-append-drop 138 b) ∙ ap (λ (t : List ℕ). t ++ drop 138 b) s.0 ∙ ap (λ (t : List ℕ). pair_bytes r ++ t) d.bytes ∙ sym (one_more pair_bytes 138 length_pair k r qs);
      rising = next h s.1 d.rising;
      room = omega (arith, d.room);
    })

-- k + 1 places, where the law is known of k
module _ (k low : ℕ) (b : List ℕ) (rs : List Record) (long : length b ≡ suc k * 138)
    (more : (n : ℕ) (qs : List Record) → pairs_in k n (drop 138 b) ≡ some qs → Decoded k n (drop 138 b) qs) where
  by_rest : (o : Option (List Record)) (r : Record) → place_of (take 138 b) ≡ Some r → low ≤ r.number
      → pairs_in k (r.number + 1) (drop 138 b) ≡ o → in_front r o ≡ some rs → Decoded (suc k) low b rs
  by_rest none r p h f e = absurd (none-ne-some rs e)
  by_rest (some qs) r p h f e = in_front_lem k low b r qs rs (omega arith) p h (more (r.number + 1) qs f) e

  by_order : (x : Bool) (r : Record) → place_of (take 138 b) ≡ Some r → leb low r.number ≡ x
      → cond x (in_front r (pairs_in k (r.number + 1) (drop 138 b))) none ≡ some rs → Decoded (suc k) low b rs
  by_order true r p f e = by_rest (pairs_in k (r.number + 1) (drop 138 b)) r p (leb-true low r.number f) refl e
  by_order false r p f e = absurd (none-ne-some rs e)

  by_place : (p : Optional Record) → place_of (take 138 b) ≡ p → followed low p (λ n. pairs_in k n (drop 138 b)) ≡ some rs → Decoded (suc k) low b rs
  by_place None f e = absurd (none-ne-some rs e)
  by_place (Some r) f e = by_order (leb low r.number) r f refl e

  by_zeros : (x : Bool) → all_zero b ≡ x
      → cond x (some []) (followed low (place_of (take 138 b)) (λ n. pairs_in k n (drop 138 b))) ≡ some rs → Decoded (suc k) low b rs
  by_zeros true f e = nothing (suc k) low b rs long (zero_replicate b f) e
  by_zeros false f e = by_place (place_of (take 138 b)) refl e

no_bytes : (b : List ℕ) → length b ≡ 0 → b ≡ replicate (length b) 0
no_bytes [] h = refl
no_bytes (x ∷ b) h = absurd (omega arith)

pub pairs_sound : (k low : ℕ) (b : List ℕ) (rs : List Record) → length b ≡ k * 138 → pairs_in k low b ≡ some rs → Decoded k low b rs
unfolding pairs_in
pairs_sound zero low b rs long e = nothing zero low b rs long (no_bytes b (omega arith)) e
pairs_sound (suc k) low b rs long e =
    by_zeros k low b rs long (λ n qs f. pairs_sound k n (drop 138 b) qs (rw length-drop (omega arith)) f) (all_zero b) refl e

by_length : (x : Bool) (b : List ℕ) (rs : List Record) → eqb (length b) 8832 ≡ x → cond x (pairs_in 64 0 b) none ≡ some rs → Decoded 64 0 b rs
by_length true b rs f e = pairs_sound 64 0 b rs (eqb-true (length b) 8832 f) e
by_length false b rs f e = absurd (none-ne-some rs e)

pub roster_sound : (b : List ℕ) (rs : List Record) → roster_of b ≡ some rs → Decoded 64 0 b rs
unfolding roster_of
roster_sound b rs e = by_length (eqb (length b) 8832) b rs refl e

pub exactly : RostersExactly
exactly b rs = (λ e. let d = roster_sound b rs e in (d.bytes, d.rising, d.room), λ k. rw k.0 (roster_back rs k.1 k.2))

-- ── demand 2 ──

legal_at : {low : ℕ} {rs : List Record} (i : ℕ) (r : Record) → Rising low rs → get_elem? rs i ≡ some r → legal r ≡ true
legal_at i r end e = absurd (none-ne-some r e)
legal_at zero r (next {r = s} g l q) e = ap legal (sym (some-injective s r e)) ∙ l
legal_at (suc i) r (next g l q) e = legal_at i r q e

pub places_read : PlacesRead
unfolding packed
places_read b rs i r e g =
    let d = roster_sound b rs e in
    let p = place_of_lem pair_bytes 138 length_pair rs _ i r g in
    ap (read_at i) d.bytes
    ∙ ap (λ (l : List ℕ). read_of (take 69 l) (take 69 (drop 69 l))) p.1
    ∙ read_front r p.0 (legal_at i r d.rising g)
