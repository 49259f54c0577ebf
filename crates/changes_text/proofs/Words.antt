-- Words of a line told apart, and what each says: numbers, letters and designators back from their text.
use Prim.Native.Nat.{ℕ, zero, suc, ◌+◌, ◌-◌, ◌*◌, ◌/◌, ◌%◌, ◌^◌, ◌<◌, ◌≤◌}
use mathlib.Core.Path.{◌≡◌, refl, ap, sym, ◌∙◌}
use mathlib.Core.Bool.{Bool, true, false, cond, ◌&&◌}
use mathlib.Core.List.{List, [], ◌∷◌, ◌++◌, append_assoc}
use native.Mathlib.Omega.{arith}
use native.Mathlib.Nat.{pow-suc}
use borrow.Author.Tests.{ltb-true, lt-ltb, ne_eqb, eqb-true}
use lib.Dec.{eqb, ltb}
use lib.IntN.{ℤ, pos, negsuc, nat_abs}
use lib.ListN.{take, get_or}
use Rattle.text.specs.Output.{spell, decimal, signed, places, glyph}
use Rattle.tle.specs.declared.Class.{Class}
use Rattle.tle.specs.declared.Class.TheVariants.{Unclassified, Classified, Secret}
use Rattle.tle.specs.declared.Designator.{Designator}
use Rattle.tle.specs.declared.Designator.TheVariants.{Blank, Piece}
use Rattle.tle.specs.declared.Scaled.{Scaled}
use Rattle.tle.specs.Read.{letter}
use Rattle.listing.specs.Listing.{then, trimmed, designator_text, scaled_text}
use Rattle.tle_writer.proofs.Facts.{both}

-- ── bytes above k ──

abbrev pub Over : ℕ → List ℕ → Type 0
Over k [] = Unit {0}
Over k (b ∷ u) = (k < b) × Over k u

pub over_append : (k : ℕ) (u v : List ℕ) → Over k u → Over k v → Over k (u ++ v)
over_append k [] v h g = g
over_append k (b ∷ u) v h g = (h.0, over_append k u v h.1 g)

pub over_less : (k l : ℕ) (u : List ℕ) → k ≤ l → Over l u → Over k u
over_less k l [] e h = tt
over_less k l (b ∷ u) e h = (let g = h.0 in omega arith, over_less k l u e h.1)

abbrev above : ℕ → List ℕ → Bool
above k [] = true
above k (b ∷ u) = ltb k b && above k u

pub over_by : (k : ℕ) (u : List ℕ) → above k u ≡ true → Over k u
over_by k [] h = tt
over_by k (b ∷ u) h = let p = both (ltb k b) (above k u) h in (ltb-true k b p.0, over_by k u p.1)

-- two texts parted by the first byte x
pub split : (x : ℕ) (u v s t : List ℕ) → Over x u → Over x v → u ++ x ∷ s ≡ v ++ x ∷ t → (u ≡ v) × (s ≡ t)
split x [] [] s t h g e = (refl, cc)
split x [] (b ∷ v) s t h g e = let q : x ≡ b = cc in let k = g.0 in absurd (omega arith)
split x (b ∷ u) [] s t h g e = let q : b ≡ x = cc in let k = h.0 in absurd (omega arith)
split x (b ∷ u) (d ∷ v) s t h g e =
    let q : b ≡ d = cc in
    let f : u ++ x ∷ s ≡ v ++ x ∷ t = cc in
    let p = split x u v s t h.1 g.1 f in
    let m = p.0 in
    (rw (q, m), p.1)

-- ── the first word, and what stands behind it ──

abbrev pub word_of : List ℕ → List ℕ
word_of [] = []
word_of (b ∷ u) = cond (eqb b 32) [] (b ∷ word_of u)

abbrev pub behind : List ℕ → List ℕ
behind [] = []
behind (b ∷ u) = cond (eqb b 32) u (behind u)

pub word_is : (u s : List ℕ) → Over 32 u → word_of (then u s) ≡ u
word_is [] s h = refl
word_is (b ∷ u) s h = let k = h.0 in rw (ne_eqb b 32 (λ e. omega arith), word_is u s h.1)

pub behind_is : (u s : List ℕ) → Over 32 u → behind (then u s) ≡ s
behind_is [] s h = refl
behind_is (b ∷ u) s h = let k = h.0 in rw (ne_eqb b 32 (λ e. omega arith)) (behind_is u s h.1)

-- ── numbers ──

abbrev pub worth : ℕ → List ℕ → ℕ
worth n [] = n
worth n (b ∷ u) = worth (n * 10 + (b - 48)) u

worth_snoc : (n b : ℕ) (u : List ℕ) → worth n (u ++ (b ∷ [])) ≡ worth n u * 10 + (b - 48)
worth_snoc n b [] = refl
worth_snoc n b (d ∷ u) = worth_snoc (n * 10 + (d - 48)) b u

spell_worth : (w n : ℕ) → n < 10 ^ w → worth 0 (spell w n) ≡ n
unfolding spell
spell_worth zero n h = omega arith
spell_worth (suc w) n h = by (ltb n 10) refl (λ k. spell_worth w (n / 10) k)
  where
    by : (t : Bool) → ltb n 10 ≡ t → (n / 10 < 10 ^ w → worth 0 (spell w (n / 10)) ≡ n / 10) → worth 0 (cond t ((48 + n) ∷ []) (spell w (n / 10) ++ ((48 + n % 10) ∷ []))) ≡ n
    by true e f = omega arith
    by false e f =
        let k : n < 10 * 10 ^ w = omega (arith, rw pow-suc at h) in
        worth_snoc 0 (48 + n % 10) (spell w (n / 10)) ∙ rw (f (omega arith)) (omega arith)

pub decimal_worth : (n : ℕ) → n < 10 ^ 20 → worth 0 (decimal n) ≡ n
decimal_worth n h = spell_worth 20 n h

pub spell_over : (w n : ℕ) → Over 47 (spell w n)
unfolding spell
spell_over zero n = tt
spell_over (suc w) n = by (ltb n 10) (spell_over w (n / 10))
  where
    by : (t : Bool) → Over 47 (spell w (n / 10)) → Over 47 (cond t ((48 + n) ∷ []) (spell w (n / 10) ++ ((48 + n % 10) ∷ [])))
    by true f = (omega arith, tt)
    by false f = over_append 47 (spell w (n / 10)) ((48 + n % 10) ∷ []) f (omega arith, tt)

abbrev pub Below : ℕ → List ℕ → Type 0
Below k [] = Unit {0}
Below k (b ∷ u) = (b < k) × Below k u

below_append : (k : ℕ) (u v : List ℕ) → Below k u → Below k v → Below k (u ++ v)
below_append k [] v h g = g
below_append k (b ∷ u) v h g = (h.0, below_append k u v h.1 g)

pub spell_below : (w n : ℕ) → Below 58 (spell w n)
unfolding spell
spell_below zero n = tt
spell_below (suc w) n = by (ltb n 10) refl (spell_below w (n / 10))
  where
    by : (t : Bool) → ltb n 10 ≡ t → Below 58 (spell w (n / 10)) → Below 58 (cond t ((48 + n) ∷ []) (spell w (n / 10) ++ ((48 + n % 10) ∷ [])))
    by true e f = let k = ltb-true n 10 e in (omega arith, tt)
    by false e f = below_append 58 (spell w (n / 10)) ((48 + n % 10) ∷ []) f (omega arith, tt)

abbrev minus : ℕ → ℤ
minus n = negsuc (n - 1)

pub unsigned : List ℕ → ℤ
unsigned [] = pos 0
unsigned (b ∷ u) = cond (eqb b 45) (minus (worth 0 u)) (pos (worth 0 (b ∷ u)))

plain : (u : List ℕ) → Over 47 u → unsigned u ≡ pos (worth 0 u)
unfolding unsigned
plain [] h = refl
plain (b ∷ u) h = let k = h.0 in rw (ne_eqb b 45 (λ e. omega arith))

lead : (u : List ℕ) → unsigned (45 ∷ u) ≡ minus (worth 0 u)
unfolding unsigned
lead u = refl

pub signed_back : (z : ℤ) → nat_abs z < 10 ^ 20 → unsigned (signed z) ≡ z
unfolding signed
signed_back (pos n) h = plain (decimal n) (spell_over 20 n) ∙ ap pos (decimal_worth n h)
signed_back (negsuc n) h = let e : suc n - 1 ≡ n = omega arith in lead (decimal (suc n)) ∙ ap minus (decimal_worth (suc n) h) ∙ ap negsuc e

pub signed_over : (z : ℤ) → Over 44 (signed z)
unfolding signed
signed_over (pos n) = over_less 44 47 (decimal n) (omega arith) (spell_over 20 n)
signed_over (negsuc n) = (omega arith, over_less 44 47 (decimal (suc n)) (omega arith) (spell_over 20 (suc n)))

-- ── a mantissa and its exponent ──

pub unscaled : List ℕ → Scaled
unscaled u = record { mantissa = unsigned (word_of u); exponent = unsigned (behind u) }

pub record Small (s : Scaled) : Type 0 where
  pub mantissa : nat_abs s.mantissa < 10 ^ 20
  pub exponent : nat_abs s.exponent < 10 ^ 20

-- ── a letter ──

pub unlettered : ℕ → Class
unlettered b = cond (eqb b 85) Unclassified (cond (eqb b 67) Classified Secret)

pub letter_back : (c : Class) → unlettered (letter c) ≡ c
unfolding unlettered letter
letter_back Unclassified = refl
letter_back Classified = refl
letter_back Secret = refl

pub letter_over : (c : Class) → Over 32 (letter c ∷ [])
unfolding letter
letter_over Unclassified = (omega arith, tt)
letter_over Classified = (omega arith, tt)
letter_over Secret = (omega arith, tt)

-- ── a designator ──

pub undesignated : List ℕ → Designator
undesignated u = cond (eqb (get_or u 0 0) 45) Blank (Piece (worth 0 (take 5 u)) (get_or u 5 32) (get_or u 6 32) (get_or u 7 32))

pieces : {l a b c l' a' b' c' : ℕ} → l ≡ l' → a ≡ a' → b ≡ b' → c ≡ c' → Piece l a b c ≡ Piece l' a' b' c'
pieces p q r s = cc

digit : (n : ℕ) → glyph (n % 10) ≡ 48 + n % 10
unfolding glyph
digit n = rw (lt-ltb (n % 10) 10 (omega arith))

-- a piece as the layout has it
pub record Fit (l a b c : ℕ) : Type 0 where
  pub launch : l < 100000
  pub letter : 65 ≤ a
  pub second : eqb b 32 ≡ false → 65 ≤ b
  pub third : eqb c 32 ≡ false → (65 ≤ c) × (65 ≤ b)

module _ (l a b c : ℕ) (F : Fit l a b c) where
  five : List ℕ → List ℕ
  five t = (48 + l / 10 / 10 / 10 / 10 % 10) ∷ (48 + l / 10 / 10 / 10 % 10) ∷ (48 + l / 10 / 10 % 10) ∷ (48 + l / 10 % 10) ∷ (48 + l % 10) ∷ t

  five_is : (t : List ℕ) → places 10 5 l ++ t ≡ five t
  unfolding places five
  five_is t = rw (digit (l / 10 / 10 / 10 / 10), digit (l / 10 / 10 / 10), digit (l / 10 / 10), digit (l / 10), digit l)

  trimmed_by : (x y : Bool) → eqb c 32 ≡ x → eqb b 32 ≡ y → trimmed (a ∷ b ∷ c ∷ []) ≡ cond x (cond y (a ∷ []) (a ∷ b ∷ [])) (a ∷ b ∷ c ∷ [])
  unfolding trimmed
  trimmed_by true true e f = let k = F.letter in rw (e, f, ne_eqb a 32 (λ q. omega arith))
  trimmed_by true false e f = rw (e, f)
  trimmed_by false y e f = rw e

  five_back : (t : List ℕ) → undesignated (five t) ≡ Piece l (get_or t 0 32) (get_or t 1 32) (get_or t 2 32)
  unfolding undesignated five
  five_back t =
      let k = F.launch in
      rw (ne_eqb (48 + l / 10 / 10 / 10 / 10 % 10) 45 (λ q. omega arith)) (pieces (omega arith) refl refl refl)

  back_by : (x y : Bool) → eqb c 32 ≡ x → eqb b 32 ≡ y → undesignated (designator_text (Piece l a b c)) ≡ Piece l a b c
  unfolding designator_text
  back_by true true e f =
      ap undesignated (five_is (trimmed (a ∷ b ∷ c ∷ [])) ∙ ap five (trimmed_by true true e f)) ∙ five_back (a ∷ [])
      ∙ pieces refl refl (sym (eqb-true b 32 f)) (sym (eqb-true c 32 e))
  back_by true false e f =
      ap undesignated (five_is (trimmed (a ∷ b ∷ c ∷ [])) ∙ ap five (trimmed_by true false e f)) ∙ five_back (a ∷ b ∷ [])
      ∙ pieces refl refl refl (sym (eqb-true c 32 e))
  back_by false y e f =
      ap undesignated (five_is (trimmed (a ∷ b ∷ c ∷ [])) ∙ ap five (trimmed_by false y e f)) ∙ five_back (a ∷ b ∷ c ∷ [])

  pub piece_back : undesignated (designator_text (Piece l a b c)) ≡ Piece l a b c
  piece_back = back_by (eqb c 32) (eqb b 32) refl refl

  five_over : (t : List ℕ) → Over 32 t → Over 32 (five t)
  unfolding five
  five_over t h = (omega arith, (omega arith, (omega arith, (omega arith, (omega arith, h)))))

  over_by_cases : (x y : Bool) → eqb c 32 ≡ x → eqb b 32 ≡ y → Over 32 (cond x (cond y (a ∷ []) (a ∷ b ∷ [])) (a ∷ b ∷ c ∷ []))
  over_by_cases true true e f = let k = F.letter in (omega arith, tt)
  over_by_cases true false e f = let k = F.letter in let m = F.second f in (omega arith, (omega arith, tt))
  over_by_cases false y e f = let k = F.letter in let m = F.third e in (omega arith, (omega arith, (omega arith, tt)))

  pub piece_over : Over 32 (designator_text (Piece l a b c))
  unfolding designator_text
  piece_over =
      rw (five_is (trimmed (a ∷ b ∷ c ∷ [])), trimmed_by (eqb c 32) (eqb b 32) refl refl)
      (five_over (cond (eqb c 32) (cond (eqb b 32) (a ∷ []) (a ∷ b ∷ [])) (a ∷ b ∷ c ∷ [])) (over_by_cases (eqb c 32) (eqb b 32) refl refl))

pub blank_back : undesignated (designator_text Blank) ≡ Blank
unfolding undesignated designator_text
blank_back = refl

pub blank_over : Over 32 (designator_text Blank)
unfolding designator_text
blank_over = (omega arith, tt)

-- ── two scaled numbers ──

pub scaled_back : (s : Scaled) → Small s → unscaled (scaled_text s) ≡ s
unfolding scaled_text unscaled
scaled_back s h =
    let o = over_less 32 44 (signed s.mantissa) (omega arith) (signed_over s.mantissa) in
    rw (word_is (signed s.mantissa) (signed s.exponent) o, behind_is (signed s.mantissa) (signed s.exponent) o, signed_back s.mantissa h.mantissa, signed_back s.exponent h.exponent)

-- the last two of four words
pub last_two : List ℕ → List ℕ
last_two u = behind (behind u)

pub first_two : List ℕ → List ℕ
first_two u = then (word_of u) (word_of (behind u))

module _ (s t : Scaled) where
  four : then (scaled_text s) (scaled_text t) ≡ then (signed s.mantissa) (then (signed s.exponent) (scaled_text t))
  unfolding scaled_text
  four = simp append_assoc

  dark : (z : ℤ) → Over 32 (signed z)
  dark z = over_less 32 44 (signed z) (omega arith) (signed_over z)

  pub last_is : last_two (then (scaled_text s) (scaled_text t)) ≡ scaled_text t
  unfolding last_two
  last_is =
      rw (four, behind_is (signed s.mantissa) (then (signed s.exponent) (scaled_text t)) (dark s.mantissa), behind_is (signed s.exponent) (scaled_text t) (dark s.exponent))

  pub first_is : first_two (then (scaled_text s) (scaled_text t)) ≡ scaled_text s
  unfolding first_two scaled_text
  first_is =
      rw (
        four,
        word_is (signed s.mantissa) (then (signed s.exponent) (scaled_text t)) (dark s.mantissa),
        behind_is (signed s.mantissa) (then (signed s.exponent) (scaled_text t)) (dark s.mantissa),
        word_is (signed s.exponent) (scaled_text t) (dark s.exponent),
      )
