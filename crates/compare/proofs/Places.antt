-- The places of a roster, and the records in them.
use Prim.Native.Nat.{ℕ, zero, suc, ◌+◌, ◌-◌, ◌*◌, ◌<◌, ◌≤◌}
use mathlib.Core.Path.{◌≡◌, refl, ap, sym, ◌∙◌}
use mathlib.Core.Bool.{Bool, true, false}
use mathlib.Core.List.{List, [], ◌∷◌, ◌++◌, flat_map}
use mathlib.Core.Option.{Option, none, some}
use native.Mathlib.Omega.{arith}
use lib.ListN.{length, take, drop, replicate, length-drop, drop_of_length-le}
use lib.Seq.{take_at, drop_at, take_all, drop-drop}
use Rattle.tle.specs.Legal.{legal}
use Rattle.tle.specs.Read.{read_of}
use Rattle.tle.specs.declared.Record.{Record}
use Rattle.tle.specs.declared.Refusal.{Refusal}
use Rattle.std.specs.Prelude.{Err, None, Ok, Option as Optional, Result, Some}
use Rattle.roster.specs.Packed.{packed}
use Rattle.roster.specs.Records.{Rising, end, next}
use Rattle.roster.specs.Row.{roster_with}
use Rattle.roster.specs.Roster.{pair_bytes, all_zero, roster_of, is_none}
use Rattle.roster.proofs.Tests.{replicate_zero}
use Rattle.roster.proofs.Pairs.{length_pair, pair_nonzero, read_front}
use Rattle.roster.proofs.Decode.{places, Decoded, roster_sound}
use Rattle.roster.proofs.Rows.{with_row}
use Rattle.roster.proofs.Packing.{length_packed, one_more}
use Rattle.compare.specs.Walk.{records_in, Holding, front, StandsAt}

zeros_drop : (m n : ℕ) → drop {A = ℕ} m (replicate (m + n) 0) ≡ replicate n 0
zeros_drop zero n = let e : 0 + n ≡ n = omega arith in rw e
zeros_drop (suc m) n = let e : suc m + n ≡ suc (m + n) = omega arith in rw e (zeros_drop m n)

-- what lies behind the first i places
places_drop : (i k : ℕ) (rs : List Record) → i ≤ k → length rs ≤ k → drop (i * 138) (places k rs) ≡ places (k - i) (drop i rs)
unfolding packed flat_map
places_drop zero k rs h g = let e : k - 0 ≡ k = omega arith in rw e
places_drop (suc i) k [] h g =
    let e : (k - 0) * 138 ≡ suc i * 138 + (k - suc i - 0) * 138 = omega arith in
    rw e (zeros_drop (suc i * 138) ((k - suc i - 0) * 138))
places_drop (suc i) zero (r ∷ rs) h g = absurd (omega arith)
places_drop (suc i) (suc k) (r ∷ rs) h g =
    let far : suc i * 138 ≡ 138 + i * 138 = omega arith in
    let e : suc k - suc i ≡ k - i = omega arith in
    ap (λ (m : ℕ). drop m (places (suc k) (r ∷ rs))) far ∙ sym (drop-drop (i * 138) 138 (places (suc k) (r ∷ rs)))
    ∙ ap (drop (i * 138)) (ap (drop 138) (one_more pair_bytes 138 length_pair k r rs) ∙ drop_at (pair_bytes r) (places k rs) 138 (length_pair r))
    ∙ places_drop i k rs (omega arith) (omega arith) ∙ ap (λ (m : ℕ). places m (drop i rs)) (sym e)

abbrev Legal : Optional Record → Type 0
Legal (Some r) = legal r ≡ true
Legal None = Unit {0}

legal_front : {low : ℕ} {rs : List Record} → Rising low rs → (i : ℕ) → Legal (front (drop i rs))
legal_front end zero = tt
legal_front end (suc i) = tt
legal_front (next g l q) zero = l
legal_front (next g l q) (suc i) = legal_front q i

-- ── a roster, and place i of it ──

module _ (b : List ℕ) (H : Holding b) where
  pub sound : Decoded 64 0 b (records_in b)
  sound = roster_sound b (records_in b) H.records

  pub few : length (records_in b) ≤ 64
  few = sound.room

  pub past_end : (i : ℕ) → 64 ≤ i → None ≡ front (drop i (records_in b))
  past_end i h = rw (drop_of_length-le (records_in b) {i = i} (omega (arith, few)))

  module _ (i : ℕ) (some_left : i < 64) where
    rest : drop (i * 138) b ≡ places (64 - i) (drop i (records_in b))
    rest = ap (drop (i * 138)) sound.bytes ∙ places_drop i 64 (records_in b) (omega arith) few

    left : 64 - i ≡ suc (64 - (i + 1))
    left = omega arith

    whole : take (length b - i * 138) (drop (i * 138) b) ≡ drop (i * 138) b
    whole = take_all (length b - i * 138) (drop (i * 138) b) (rw length-drop (omega arith))

    -- no record is left, or one
    zeros : drop i (records_in b) ≡ [] → all_zero (drop (i * 138) b) ≡ true
    unfolding packed flat_map
    zeros e = rw (rest, e) (replicate_zero ((64 - i - 0) * 138))

    pair : (q : Record) (qs : List Record) → drop i (records_in b) ≡ q ∷ qs → drop (i * 138) b ≡ pair_bytes q ++ places (64 - (i + 1)) qs
    pair q qs e = rest ∙ rw (e, left) (one_more pair_bytes 138 length_pair (64 - (i + 1)) q qs)

    empty_by : (rs : List Record) → drop i (records_in b) ≡ rs → all_zero (drop (i * 138) b) ≡ true → None ≡ front rs
    empty_by [] e h = refl
    empty_by (q ∷ qs) e h =
        let f : all_zero (drop (i * 138) b) ≡ false = ap all_zero (pair q qs e) ∙ pair_nonzero q (places (64 - (i + 1)) qs) in
        let z : ◌≡◌ {A = ℕ} 0 1 = cc in absurd (omega arith)

    pub is_empty : (x : Bool) → x ≡ all_zero (take (length b - i * 138) (drop (i * 138) b)) → x ≡ true → None ≡ front (drop i (records_in b))
    is_empty x e h = empty_by (drop i (records_in b)) refl (sym (ap all_zero whole) ∙ sym e ∙ h)

    -- the two lines, as the code takes them
    lines : read_of (take (i * 138 + 69 - i * 138) (drop (i * 138) b)) (take (i * 138 + 138 - (i * 138 + 69)) (drop (i * 138 + 69) b))
        ≡ read_of (take 69 (drop (i * 138) b)) (take 69 (drop 69 (drop (i * 138) b)))
    lines =
        let e : i * 138 + 69 - i * 138 ≡ 69 = omega arith in
        let f : i * 138 + 138 - (i * 138 + 69) ≡ 69 = omega arith in
        rw (e, f, drop-drop 69 (i * 138) b)

    read_by : (rs : List Record) → drop i (records_in b) ≡ rs → Legal (front rs) → all_zero (drop (i * 138) b) ≡ false
        → (g : Result Record Refusal) → g ≡ read_of (take 69 (drop (i * 138) b)) (take 69 (drop 69 (drop (i * 138) b)))
        → ((r : Record) → g ≡ Ok r → Some r ≡ front rs) × ((why : Refusal) → g ≡ Err why → None ≡ front rs)
    read_by [] e l s g f = let t = zeros e in let z : ◌≡◌ {A = ℕ} 0 1 = cc in absurd (omega arith)
    read_by (q ∷ qs) e l s g f =
        let k : g ≡ Ok q =
        f ∙ ap (λ (t : List ℕ). read_of (take 69 t) (take 69 (drop 69 t))) (pair q qs e) ∙ read_front q (places (64 - (i + 1)) qs) l in
        (λ r h. (let m : r ≡ q = cc in ap Some m), λ why h. (let z : ◌≡◌ {A = ℕ} 0 1 = cc in absurd (omega arith)))

    module _ (x : Bool) (tested : x ≡ all_zero (take (length b - i * 138) (drop (i * 138) b))) (h : x ≡ false) (g : Result Record Refusal)
        (got : g ≡ read_of (take (i * 138 + 69 - i * 138) (drop (i * 138) b)) (take (i * 138 + 138 - (i * 138 + 69)) (drop (i * 138 + 69) b))) where
      read_here : ((r : Record) → g ≡ Ok r → Some r ≡ front (drop i (records_in b)))
          × ((why : Refusal) → g ≡ Err why → None ≡ front (drop i (records_in b)))
      read_here = read_by (drop i (records_in b)) refl (legal_front sound.rising i) (sym (ap all_zero whole) ∙ sym tested ∙ h) g (got ∙ lines)

      pub is_pair : (r : Record) → g ≡ Ok r → Some r ≡ front (drop i (records_in b))
      is_pair r e = read_here.0 r e

      pub is_refused_lem : (why : Refusal) → g ≡ Err why → None ≡ front (drop i (records_in b))
      is_refused_lem why e = read_here.1 why e

  stands_inside : (i : ℕ) (q : Record) (qs : List Record) → drop i (records_in b) ≡ q ∷ qs → i < 64
  stands_inside i q qs e = omega (arith, few, length-drop i (records_in b), ap length e)

  stands_by : (i : ℕ) (rs : List Record) → drop i (records_in b) ≡ rs → Legal (front rs) → StandsAt b i (front rs)
  stands_by i [] e l = tt
  stands_by i (q ∷ qs) e l =
      let inside = stands_inside i q qs e in
      record {
        good = l;
        inside = inside;
        long = H.long;
        bytes = ap (take 138) (pair i inside q qs e) ∙ take_at (pair_bytes q) (places (64 - (i + 1)) qs) 138 (length_pair q);
      }

  pub stands : (i : ℕ) → StandsAt b i (front (drop i (records_in b)))
  stands i = stands_by i (drop i (records_in b)) refl (legal_front sound.rising i)

-- a part of 138 bytes, as the code takes it
pub part : (b : List ℕ) (i : ℕ) → take (i * 138 + 138 - i * 138) (drop (i * 138) b) ≡ take 138 (drop (i * 138) b)
part b i = let e : i * 138 + 138 - i * 138 ≡ 138 = omega arith in rw e

-- ── whether a buffer is a roster ──

held_by : (b : List ℕ) (o : Option (List Record)) → roster_of b ≡ o → is_none o ≡ false → Holding b
unfolding records_in
held_by b none e h = let z : ◌≡◌ {A = ℕ} 0 1 = cc in absurd (omega arith)
held_by b (some rs) e h =
    let d = roster_sound b rs e in
    record { records = rw e; long = ap length d.bytes ∙ length_packed pair_bytes 138 length_pair 64 rs d.room }

pub holding : (b row : List ℕ) → is_none (roster_with b row) ≡ false → Holding b
holding b row h = held_by b (roster_of b) refl (ap is_none (sym (with_row b row h)) ∙ h)
