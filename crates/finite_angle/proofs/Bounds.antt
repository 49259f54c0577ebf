-- How large a rounded result can be, by powers of two. `Below b x` says that x is finite and smaller in size than 2 ^ b. Each operation adds a bit or two to the bounds of
-- its operands, which is crude, and enough where bounds lie far below the format's largest values. Assumes nothing.
use mathlib.Core.Path.{◌≡◌, sym, ap, ◌∙◌, subst}
use Prim.Native.Nat.{ℕ, zero, suc, ◌+◌, ◌-◌, ◌*◌, ◌/◌, ◌%◌, ◌^◌, ◌≤◌, ◌<◌, compare}
use native.Mathlib.Nat.{le_trans, le_of_eq, lt_of_lt_of_le, lt_of_le_of_lt, le_of_lt, mul_assoc, mul_right_comm, zero-mul, mul-pos, mul-le-mul_left, mul-le-mul_right, mul-lt-mul_of_pos_right, lt_of_mul-lt-mul_right, div-lt_iff_lt-mul, div-mul-le_self, div-div-eq-div-mul, mod-le, not-le_of_lt, lt_irrefl, zero-lt-suc, pow-suc}
use native.Mathlib.Omega.{arith}
use mathlib.Core.Bool.{Bool, true, false, cond, beq, ◌&&◌}
use lib.Dec.{T, ltb, leb, eqb, leb→le}
use lib.Pow.{pow-add, pow_pos, pow_mono}
use borrow.Author.Tests.{ne_eqb}
use lib.Ieee.{Float, nan, inf, fin, Format, prec, emax, low, up, down, size, nearest, units, round, unlike, neg, add, sub, sum, mul, div, rem}
use lib.Ieee.Digits.{size-le}
use lib.Ieee.Fits.{round_is, down_pos, nearest-le}
use lib.Ieee.Exact.{HasValue, units_val}

abbrev pub Below : ℕ → Float → Type 0
Below b nan = ⊥
Below b (inf s) = ⊥
Below b (fin s m e) = m * up e < 2 ^ b * down e

-- of a finite number that has the value v / 2 ^ l
of_value : (x : Float) (s : Bool) (v l b : ℕ) → v < 2 ^ (b + l) → HasValue x s v (2 ^ l) → Below b x
of_value nan s v l b h p = p
of_value (inf t) s v l b h p = p
of_value (fin t m e) s v l b h p =
    lt_of_mul-lt-mul_right (2 ^ l)
    (subst (λ (z : ℕ). z < 2 ^ b * down e * 2 ^ l) (sym p.1)
    (lt_of_lt_of_le (mul-lt-mul_of_pos_right h (down_pos e))
    (le_of_eq (ap (λ (z : ℕ). z * down e) (pow-add 2 b l) ∙ mul_right_comm (2 ^ b) (2 ^ l) (down e)))))

spare : (z p l : ℕ) → z ≤ l → z - p ≤ l
spare z p l h = omega arith

next : (q w r : ℕ) → q ≤ suc w → q * r ≤ w * r + r
next q w r h = le_trans (mul-le-mul_right r h) (le_of_eq (omega arith))

-- a rounded fraction: at most one more unit of its last place
pub round_below : (f : Format) (s : Bool) (a c b : ℕ) → 0 < c → a < 2 ^ b * c → b ≤ emax f → Below (suc b) (round f s a c)
round_below f s a c b C h r =
    let l = low f in
    let n = a * 2 ^ l in
    let w = n / c in
    let k = size w - prec f in
    let u = c * 2 ^ k in
    let q = nearest (n / u) (compare (n % u * 2) u) in
    let small : n < 2 ^ (b + l) * c =
    lt_of_lt_of_le (mul-lt-mul_of_pos_right h (pow_pos l)) (le_of_eq (mul_right_comm (2 ^ b) c (2 ^ l) ∙ ap (λ (z : ℕ). z * c) (sym (pow-add 2 b l)))) in
    let whole : w < 2 ^ (b + l) = (div-lt_iff_lt-mul C).1 small in
    let unit : 2 ^ k ≤ 2 ^ (b + l) = pow_mono (spare (size w) (prec f) (b + l) (size-le w (b + l) whole)) in
    let part : n / u * 2 ^ k ≤ w = subst (λ (z : ℕ). z * 2 ^ k ≤ w) (div-div-eq-div-mul n c (2 ^ k)) (div-mul-le_self w (2 ^ k)) in
    let most : q * 2 ^ k < 2 ^ suc (b + l) =
    lt_of_le_of_lt (next q (n / u) (2 ^ k) (nearest-le (n / u) (compare (n % u * 2) u))) (below_double (n / u * 2 ^ k) (2 ^ k) w (b + l) part whole unit) in
    subst (λ (z : Float). Below (suc b) z) (sym (round_is f s a c))
    (of_value (units f s q k) s (q * 2 ^ k) l (suc b) (subst (λ (z : ℕ). q * 2 ^ k < 2 ^ z) (moved b l) most)
    (units_val f s q k (lt_of_lt_of_le most (pow_mono (reached b l (emax f) r)))))
  where
    below_double : (x y w j : ℕ) → x ≤ w → w < 2 ^ j → y ≤ 2 ^ j → x + y < 2 ^ suc j
    below_double x y w j p g t = lt_of_lt_of_le (strictly x y w (2 ^ j) p g t) (le_of_eq (doubled j))
      where
        strictly : (x y w d : ℕ) → x ≤ w → w < d → y ≤ d → x + y < d + d
        strictly x y w d p g t = omega arith

        doubled : (j : ℕ) → 2 ^ j + 2 ^ j ≡ 2 ^ suc j
        doubled j = omega arith

    moved : (b l : ℕ) → suc (b + l) ≡ suc b + l
    moved b l = omega arith

    reached : (b l e : ℕ) → b ≤ e → suc (b + l) ≤ l + suc e
    reached b l e r = omega arith

pub weaker : (x : Float) (a b : ℕ) → a ≤ b → Below a x → Below b x
weaker nan a b h p = p
weaker (inf s) a b h p = p
weaker (fin s m e) a b h p = lt_of_lt_of_le p (mul-le-mul_right (down e) (pow_mono h))

pub neg_below : (x : Float) (b : ℕ) → Below b x → Below b (neg x)
unfolding neg
neg_below nan b p = p
neg_below (inf s) b p = p
neg_below (fin s m e) b p = p

-- ---- a product
times : (x y u v p q : ℕ) → 0 < q → 0 < v → x < p * u → y < q * v → x * y < p * q * (u * v)
times x y u v p q Q C h g =
    lt_of_le_of_lt (mul-le-mul_left x (le_of_lt g))
    (lt_of_lt_of_le (mul-lt-mul_of_pos_right h (mul-pos Q C)) (le_of_eq (omega arith)))

pub mul_below : (f : Format) (x y : Float) (a b : ℕ) → a + b ≤ emax f → Below a x → Below b y → Below (suc (a + b)) (mul f x y)
unfolding mul
mul_below f nan y a b r p q = absurd p
mul_below f (inf s) y a b r p q = absurd p
mul_below f (fin s m e) nan a b r p q = absurd q
mul_below f (fin s m e) (inf t) a b r p q = absurd q
mul_below f (fin s m e) (fin t n d) a b r p q =
    round_below f (unlike s t) (m * up e * (n * up d)) (down e * down d) (a + b) (mul-pos (down_pos e) (down_pos d))
    (lt_of_lt_of_le (times (m * up e) (n * up d) (down e) (down d) (2 ^ a) (2 ^ b) (pow_pos b) (down_pos d) p q) (le_of_eq (ap (λ (z : ℕ). z * (down e * down d)) (sym (pow-add 2 a b)))))
    r

-- ---- a sum
less : (a b c : ℕ) → a ≤ b → b < c → a < c
less a b c h g = omega arith

pub sum_below : (f : Format) (s t : Bool) (x y c b : ℕ) → 0 < c → x + y < 2 ^ b * c → b ≤ emax f → Below (suc b) (sum f s x t y c)
unfolding sum
sum_below f s t x y c b C h r = go (beq s t) (ltb x y)
  where
    go : (i j : Bool) → Below (suc b) (cond i (round f s (x + y) c) (cond j (round f t (y - x) c) (round f (s && ltb y x) (x - y) c)))
    go true j = round_below f s (x + y) c b C h r
    go false true = round_below f t (y - x) c b C (less (y - x) (x + y) (2 ^ b * c) (omega arith) h) r
    go false false = round_below f (s && ltb y x) (x - y) c b C (less (x - y) (x + y) (2 ^ b * c) (omega arith) h) r

pub add_below : (f : Format) (x y : Float) (b : ℕ) → suc b ≤ emax f → Below b x → Below b y → Below (suc (suc b)) (add f x y)
unfolding add
add_below f nan y b r p q = absurd p
add_below f (inf s) y b r p q = absurd p
add_below f (fin s m e) nan b r p q = absurd q
add_below f (fin s m e) (inf t) b r p q = absurd q
add_below f (fin s m e) (fin t n d) b r p q =
    sum_below f s t (m * up e * down d) (n * up d * down e) (down e * down d) (suc b) (mul-pos (down_pos e) (down_pos d))
    (lt_of_lt_of_le (together (m * up e * down d) (n * up d * down e) (2 ^ b * down e * down d) (2 ^ b * down d * down e) (mul-lt-mul_of_pos_right p (down_pos d)) (mul-lt-mul_of_pos_right q (down_pos e)))
    (le_of_eq (twice (2 ^ b) (down e) (down d) ∙ ap (λ (z : ℕ). z * (down e * down d)) (sym (pow-suc 2 b)))))
    r
  where
    twice : (p u v : ℕ) → p * u * v + p * v * u ≡ p * 2 * (u * v)
    twice p u v = omega arith

    together : (x y p q : ℕ) → x < p → y < q → x + y < p + q
    together x y p q h g = omega arith

pub sub_below : (f : Format) (x y : Float) (b : ℕ) → suc b ≤ emax f → Below b x → Below b y → Below (suc (suc b)) (sub f x y)
unfolding sub
sub_below f x y b r p q = add_below f x (neg y) b r p (neg_below y b q)

-- ---- a quotient and a remainder by what is 1 or more in size
abbrev pub OneUp : Float → Type 0
OneUp nan = ⊥
OneUp (inf s) = ⊥
OneUp (fin s m e) = T (leb (down e) (m * up e))

-- so that it is not 0
divides : (n u d : ℕ) (x y : Float) (b : ℕ) → 0 < d → d ≤ n * u → Below b x → Below b (cond (eqb n 0) y x)
divides zero u d x y b D h p = absurd (not-le_of_lt D (le_trans h (le_of_eq (zero-mul u))))
divides (suc n) u d x y b D h p = subst (λ (z : Bool). Below b (cond z y x)) (sym (ne_eqb (suc n) 0 (λ (q : suc n ≡ 0). lt_irrefl 0 (subst (λ (z : ℕ). 0 < z) q (zero-lt-suc n))))) p

pub div_below : (f : Format) (x y : Float) (b : ℕ) → b ≤ emax f → Below b x → OneUp y → Below (suc b) (div f x y)
unfolding div
div_below f nan y b r p q = absurd p
div_below f (inf s) y b r p q = absurd p
div_below f (fin s m e) nan b r p q = absurd q
div_below f (fin s m e) (inf t) b r p q = absurd q
div_below f (fin s m e) (fin t n d) b r p q =
    let g = leb→le (down d) (n * up d) q in
    divides n (up d) (down d) (round f (unlike s t) (m * up e * down d) (n * up d * down e)) (cond (eqb m 0) nan (inf (unlike s t))) (suc b) (down_pos d) g
    (round_below f (unlike s t) (m * up e * down d) (n * up d * down e) b (mul-pos (lt_of_lt_of_le (down_pos d) g) (down_pos e))
    (lt_of_lt_of_le (mul-lt-mul_of_pos_right p (down_pos d))
    (le_trans (mul-le-mul_left (2 ^ b * down e) g) (le_of_eq (omega arith)))) r)

pub rem_below : (f : Format) (x y : Float) (b : ℕ) → b ≤ emax f → Below b x → OneUp y → Below (suc b) (rem f x y)
unfolding rem
rem_below f nan y b r p q = absurd p
rem_below f (inf s) y b r p q = absurd p
rem_below f (fin s m e) nan b r p q = absurd q
rem_below f (fin s m e) (inf t) b r p q = absurd q
rem_below f (fin s m e) (fin t n d) b r p q =
    divides n (up d) (down d) (round f s (m * up e * down d % (n * up d * down e)) (down e * down d)) nan (suc b) (down_pos d) (leb→le (down d) (n * up d) q)
    (round_below f s (m * up e * down d % (n * up d * down e)) (down e * down d) b (mul-pos (down_pos e) (down_pos d))
    (lt_of_le_of_lt (mod-le (m * up e * down d) (n * up d * down e)) (lt_of_lt_of_le (mul-lt-mul_of_pos_right p (down_pos d)) (le_of_eq (mul_assoc (2 ^ b) (down e) (down d))))) r)
