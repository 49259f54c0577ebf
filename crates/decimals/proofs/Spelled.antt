-- Places of a number. Assumes nothing.
use mathlib.Core.Path.{◌≡◌, refl, sym, ap, ◌∙◌}
use Prim.Native.Nat.{ℕ, zero, suc, ◌+◌, ◌-◌, ◌*◌, ◌/◌, ◌%◌, ◌^◌, ◌≤◌, ◌<◌}
use native.Mathlib.Nat.{add-zero, add-suc, mul_assoc, mod-lt, zero-lt-suc, pow-suc, pow-zero, mul-one, mul-add-div_right, mul-add-mod_self_right, one-le-pow, pow-le-pow_right}
use native.Mathlib.Omega.{arith}
use mathlib.Core.Bool.{Bool, true, false, cond, ◌&&◌}
use mathlib.Core.List.{List, [], ◌∷◌, ◌++◌}
use lib.Arith.{digits_div}
use lib.ListN.{length, take, drop, length-append, drop_of_length-le}
use lib.Seq.{drop-append-le, take_all}
use lib.Dec.{leb, ltb}
use lib.Ieee.{Float, lt}
use borrow.Author.Tests.{lt-ltb, leb-true}
use Rattle.floats.specs.Notation.{dec}
use Rattle.floats.proofs.Branch.{yes, no}
use Rattle.text.specs.Output.{Put, bytes, decimal, glyph, places}
use Rattle.text.proofs.Pieces.{same}
use Rattle.decimals.specs.Fixed.{units_of, in_range, shown, units_text, signed_text, fixed_text}

-- a decimal digit
pub digit_is : (n : ℕ) → glyph (n % 10) ≡ 48 + n % 10
unfolding glyph
digit_is n = rw (lt-ltb (n % 10) 10 (omega arith))

pub length_places : (base w n : ℕ) → length (places base w n) ≡ w
unfolding places
length_places base zero n = refl
length_places base (suc w) n = simp length-append (omega (arith, length_places base w (n / base)))

-- the last places of more
last_places : (base j w n : ℕ) → drop j (places base (j + w) n) ≡ places base w n
unfolding places
last_places base j zero n = ap (λ (z : ℕ). drop j (places base z n)) (add-zero j) ∙ drop_of_length-le (places base j n) {i = j} (omega (arith, length_places base j n))
last_places base j (suc w) n =
    ap (λ (z : ℕ). drop j (places base z n)) (add-suc j w)
    ∙ drop-append-le j (places base (j + w) (n / base)) (glyph (n % base) ∷ []) (omega (arith, length_places base (j + w) (n / base)))
    ∙ ap (λ (s : List ℕ). s ++ (glyph (n % base) ∷ [])) (last_places base j w (n / base))

-- as the code takes them from nine
pub of_nine : {o o' d : List ℕ} {a r : ℕ} (w n : ℕ) → w ≤ 9 → d ≡ places 10 9 n → Put o a (take (9 - (9 - w)) (drop (9 - w) d)) o' r → Put o a (places 10 w n) o' r
of_nine {d = d} w n h e p =
    let i : 9 - (9 - w) ≡ w = omega arith in
    let j : 9 - w + w ≡ 9 = omega arith in
    let l : drop (9 - w) d ≡ places 10 w n = ap (drop (9 - w)) (e ∙ ap (λ (z : ℕ). places 10 z n) (sym j)) ∙ last_places 10 (9 - w) w n in
    same (ap (λ (z : ℕ). take z (drop (9 - w) d)) i ∙ ap (take w) l ∙ take_all w (places 10 w n) (omega (arith, length_places 10 w n))) p

-- what lies above the places does not show in them
low_places : (w q r : ℕ) → places 10 w (q * 10 ^ w + r) ≡ places 10 w r
unfolding places
low_places zero q r = refl
low_places (suc w) q r =
    let p : q * 10 ^ suc w + r ≡ q * 10 ^ w * 10 + r = ap (λ (z : ℕ). q * z + r) (pow-suc 10 w) ∙ ap (λ (z : ℕ). z + r) (sym (mul_assoc q (10 ^ w) 10)) in
    let d : (q * 10 ^ w * 10 + r) / 10 ≡ q * 10 ^ w + r / 10 = mul-add-div_right {m = 10} (zero-lt-suc 9) (q * 10 ^ w) r in
    let m : (q * 10 ^ w * 10 + r) % 10 ≡ r % 10 = mul-add-mod_self_right (q * 10 ^ w) 10 r in
    ap (λ (z : ℕ). places 10 w (z / 10) ++ (glyph (z % 10) ∷ [])) p
    ∙ ap (λ (z : ℕ). places 10 w z ++ (glyph ((q * 10 ^ w * 10 + r) % 10) ∷ [])) d
    ∙ ap (λ (z : ℕ). places 10 w (q * 10 ^ w + r / 10) ++ (glyph z ∷ [])) m
    ∙ ap (λ (s : List ℕ). s ++ (glyph (r % 10) ∷ [])) (low_places w q (r / 10))

-- whole part and places
pub units_text_lem : (w ten whole part : ℕ) → ten ≡ 10 ^ w → part < ten → decimal whole ++ (46 ∷ places 10 w part) ≡ units_text w (whole * ten + part)
unfolding units_text
units_text_lem w ten whole part e h =
    let n : whole * ten + part ≡ whole * 10 ^ w + part = ap (λ (z : ℕ). whole * z + part) e in
    let g : part < 10 ^ w = omega arith in
    sym (ap (λ (z : ℕ). decimal (z / 10 ^ w) ++ (46 ∷ places 10 w z)) n
    ∙ ap (λ (z : ℕ). decimal z ++ (46 ∷ places 10 w (whole * 10 ^ w + part))) (digits_div whole g)
    ∙ ap (λ (s : List ℕ). decimal whole ++ (46 ∷ s)) (low_places w whole part))

-- ---- powers of ten
pub ten_even : (p ten : ℕ) → 1 ≤ p → ten ≡ 10 ^ p → ten % 2 ≡ 0
ten_even zero ten h e = absurd (omega arith)
ten_even (suc p) ten h e = let q : 10 ^ suc p ≡ 10 ^ p * 10 = pow-suc 10 p in omega arith

pub ten_least : (p ten : ℕ) → ten ≡ 10 ^ p → 1 ≤ ten
ten_least p ten e = let q : 1 ≤ 10 ^ p = one-le-pow p 10 (zero-lt-suc 9) in omega arith

pub ten_most : (p ten : ℕ) → p ≤ 9 → ten ≡ 10 ^ p → ten ≤ 1000000000
ten_most p ten h e = let q : 10 ^ p ≤ 1000000000 = pow-le-pow_right {n = 10} (zero-lt-suc 9) {i = p} {j = 9} h in omega arith

pub and_true : (b c : Bool) → c ≡ true → b ≡ (b && c)
and_true true c h = sym h
and_true false c h = refl

-- ---- the whole text
pub left_of_lem : (a b : Bool) → (a && b) ≡ true → a ≡ true
left_of_lem true b h = refl
left_of_lem false b h = h

pub right_of : (a b : Bool) → (a && b) ≡ true → b ≡ true
right_of true b h = h
right_of false b h = cc

pub record Shown (p : ℕ) (x : Float) : Type 0 where
  pub range : in_range x ≡ true
  pub least : 1 ≤ p
  pub most : p ≤ 9

pub shown_is : (p : ℕ) (x : Float) → shown p x ≡ true → Shown p x
unfolding shown
shown_is p x h =
    let l = left_of_lem (in_range x && leb 1 p) (leb p 9) h in
    record {
      range = left_of_lem (in_range x) (leb 1 p) l;
      least = leb-true 1 p (right_of (in_range x) (leb 1 p) l);
      most = leb-true p 9 (right_of (in_range x && leb 1 p) (leb p 9) h);
    }

pub shown_text : (p : ℕ) (x : Float) (minus : Bool) (n : ℕ) → shown p x ≡ true → minus ≡ (lt x (dec 0 0) && ltb 0 n) → n ≡ units_of p x
    → signed_text minus (units_text p n) ≡ fixed_text p x
unfolding fixed_text
shown_text p x minus n h e u =
    ap (λ (z : Bool). signed_text z (units_text p n)) e
    ∙ ap (λ (z : ℕ). signed_text (lt x (dec 0 0) && ltb 0 z) (units_text p z)) u
    ∙ yes (shown p x) (signed_text (lt x (dec 0 0) && ltb 0 (units_of p x)) (units_text p (units_of p x))) (bytes "*") h

pub other_text : (p : ℕ) (x : Float) → shown p x ≡ false → bytes "*" ≡ fixed_text p x
unfolding fixed_text
other_text p x h = no (shown p x) (signed_text (lt x (dec 0 0) && ltb 0 (units_of p x)) (units_text p (units_of p x))) (bytes "*") h
