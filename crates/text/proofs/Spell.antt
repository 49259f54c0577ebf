-- The loops that spell a number from its last place: in decimal without leading zeros, and in fixed places.
use Prim.Native.Nat.{ℕ, zero, suc, ◌+◌, ◌-◌, ◌/◌, ◌%◌, ◌^◌, ◌<◌, ◌≤◌}
use mathlib.Core.Path.{◌≡◌, ◌∙◌}
use mathlib.Core.List.{List, ◌∷◌, ◌++◌}
use native.Mathlib.Omega.{arith}
use native.Mathlib.Nat.{pow-suc}
use lib.ListN.{length, drop, set, length-set}
use lib.Seq.{drop-cons, append_snoc, get_or-set_same, drop-set-lt}
use borrow.Author.Tests.{le-ltb, lt-ltb}
use Rattle.text.specs.Output.{spell, places, glyph}

at_set : (j b : ℕ) (d : List ℕ) → j < length d → drop j (set d j b) ≡ b ∷ drop (suc j) d
at_set j b d h =
    drop-cons (set d j b) j 0 (rw length-set h) ∙ rw (get_or-set_same d j b 0 h, drop-set-lt (suc j) d j b (omega arith))

-- spell i m ++ drop i d is the text so far: the digits left to do, and those done
pub turn : (i m : ℕ) (d : List ℕ) → 1 ≤ i → i ≤ length d → 9 < m → spell i m ++ drop i d ≡ spell (i - 1) (m / 10) ++ drop (i - 1) (set d (i - 1) (48 + m % 10))
unfolding spell
turn zero m d p h g = absurd (omega arith)
turn (suc j) m d p h g =
    let e : suc j - 1 ≡ j = omega arith in
    rw (e, at_set j (48 + m % 10) d (omega arith), le-ltb m 10 (omega arith)) (append_snoc (spell j (m / 10)) (48 + m % 10) (drop (suc j) d))

pub end : (i m : ℕ) (d : List ℕ) → 1 ≤ i → i ≤ length d → m ≤ 9 → spell i m ++ drop i d ≡ drop (i - 1) (set d (i - 1) (48 + m))
unfolding spell
end zero m d p h g = absurd (omega arith)
end (suc j) m d p h g =
    let e : suc j - 1 ≡ j = omega arith in
    rw (e, at_set j (48 + m) d (omega arith), lt-ltb m 10 (omega arith))

-- a number of two places or more has one place fewer in its tens
pub fewer : (i m : ℕ) → 9 < m → m < 10 ^ i → (2 ≤ i) × (m / 10 < 10 ^ (i - 1))
fewer zero m g h = absurd (omega arith)
fewer (suc zero) m g h = absurd (omega arith)
fewer (suc (suc j)) m g h =
    let e : suc (suc j) - 1 ≡ suc j = omega arith in
    (omega arith, rw e (omega (arith, rw pow-suc at h)))

pub glyph_turn : (base i m : ℕ) (d : List ℕ) (b : ℕ) → b ≡ glyph (m % base) → 0 < i → i ≤ length d → places base i m ++ drop i d ≡ places base (i - 1) (m / base) ++ drop (i - 1) (set d (i - 1) b)
unfolding places
glyph_turn base zero m d b q p h = absurd (omega arith)
glyph_turn base (suc j) m d b q p h =
    let e : suc j - 1 ≡ j = omega arith in
    rw (e, at_set j b d (omega arith), q) (append_snoc (places base j (m / base)) (glyph (m % base)) (drop (suc j) d))

pub glyph_end : (base i m : ℕ) (d t : List ℕ) → i ≤ 0 → places base i m ++ drop i d ≡ t → d ≡ t
unfolding places
glyph_end base zero m d t h e = e
glyph_end base (suc i) m d t h e = absurd (omega arith)
