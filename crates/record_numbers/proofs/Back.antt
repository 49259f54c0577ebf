-- Numbers and record: there and back.
use Prim.Native.Nat.{ℕ, zero, suc, ◌+◌, ◌<◌, ◌≤◌, ◌^◌}
use mathlib.Core.Path.{◌≡◌, refl, sym, ap, ◌∙◌}
use mathlib.Core.Bool.{Bool, true, false, cond, ◌&&◌, ◌||◌}
use mathlib.Core.List.{List, [], ◌∷◌, ◌++◌}
use native.Mathlib.Omega.{arith}
use borrow.Author.Tests.{lt-ltb, le-ltb, ltb-true, ltb-false, eqb-true, ne_eqb}
use lib.Dec.{eqb, ltb}
use lib.IntN.{ℤ, pos, negsuc}
use lib.ListN.{length, take, drop}
use lib.Seq.{drop-cons}
use Rattle.columns.specs.Layout.{is_letter, is_blank}
use Rattle.tle.specs.Legal.{designator_fits}
use Rattle.tle.specs.Read.{class_of, meaning_of}
use Rattle.tle.specs.declared.Class.{Class}
use Rattle.tle.specs.declared.Class.TheVariants.{Unclassified, Classified, Secret}
use Rattle.tle.specs.declared.Designator.{Designator}
use Rattle.tle.specs.declared.Designator.TheVariants.{Blank, Piece}
use Rattle.tle.specs.declared.Record.{Record}
use Rattle.tle.specs.Read.{letter}
use Rattle.tle_writer.proofs.Facts.{Held, both, formed, legal_in_form}
use Rattle.tle_writer.proofs.Values.{class_value}
use Rattle.tle.proofs.Meaning.{forms_yield, gone_on_lem}
use Rattle.record_numbers.specs.Numbers.{places_of, numbers_of, whole, byte, designator_from, designator_at, at, record_at, Small, is_class, given_of, store_refusal, stored_over, fields_refusal, fields_over, judged_of}
use Rattle.record_numbers.specs.Back.{StoredIsGiven, JudgedAsRead, GivenIsStored}
use Rattle.record_numbers.specs.declared.Places.{Places}
use Rattle.std.specs.Prelude.{Err, Ok, Result, Some}
use Rattle.record_numbers.specs.declared.GivenRefusal.{GivenRefusal}
use Rattle.record_numbers.specs.declared.GivenRefusal.TheVariants as given_refusal
use Rattle.record_numbers.proofs.Small.{class_byte, places_small, small}

-- ── a record's numbers give the record ──

byte_back : (n : ℕ) → n < 256 → byte (pos n) ≡ n
unfolding byte whole
byte_back n h = rw (lt-ltb n 256 h)

letter_back : (c : Class) → byte (pos (letter c)) ≡ letter c
letter_back c = byte_back (letter c) (class_byte c).1

class_is : (c : Class) → is_class (letter c) ≡ true
unfolding is_class letter
class_is Unclassified = refl
class_is Classified = refl
class_is Secret = refl

-- a letter is no blank
no_blank : (a : ℕ) → is_letter a ≡ true → eqb a 32 ≡ false
no_blank a h = ne_eqb a 32 (λ e. let z : is_letter 32 ≡ true = rw e at h in let x : ◌≡◌ {A = ℕ} 0 1 = cc in omega arith)

piece_by : (x y z : Bool) (n a b c : ℕ) → cond (x && false && y && z) Blank (Piece n a b c) ≡ Piece n a b c
piece_by true y z n a b c = refl
piece_by false y z n a b c = refl

designator_back : (d : Designator) → designator_fits d ≡ true → designator_from (places_of d).launch (places_of d).a (places_of d).b (places_of d).c ≡ d
unfolding designator_from places_of designator_fits
designator_back Blank h = refl
designator_back (Piece n a b c) h =
    let abc = both (ltb n 100000 && is_letter a && (is_letter b || is_blank b)) (is_letter c && is_letter b || is_blank c) h in
    let ab = both (ltb n 100000 && is_letter a) (is_letter b || is_blank b) abc.0 in
    let na = both (ltb n 100000) (is_letter a) ab.0 in
    rw (no_blank a na.1) (piece_by (eqb n 0) (eqb b 32) (eqb c 32) n a b c)

four : (n : ℕ) {a a' b b' c c' : ℕ} → a ≡ a' → b ≡ b' → c ≡ c' → designator_from n a b c ≡ designator_from n a' b' c'
four n q r s = λ i. designator_from n (q i) (r i) (s i)

record_back : (r : Record) (ns : List ℤ) → Held r → record_at (numbers_of r ++ ns) ≡ r
unfolding record_at designator_at numbers_of whole
record_back r ns k =
    let d = r.designator in
    let s = places_small d k.designator in
    λ i. record {
      number = r.number;
      class = (ap class_of (letter_back r.class) ∙ class_value r.class) i;
      designator = (four (places_of d).launch (byte_back (places_of d).a s.1.1) (byte_back (places_of d).b s.2.1) (byte_back (places_of d).c s.3.1) ∙ designator_back d k.designator) i;
      year = r.year;
      day = r.day;
      ndot = r.ndot;
      nddot = r.nddot;
      bstar = r.bstar;
      ephemeris = r.ephemeris;
      element = r.element;
      inclination = r.inclination;
      node = r.node;
      eccentricity = r.eccentricity;
      perigee = r.perigee;
      anomaly = r.anomaly;
      motion = r.motion;
      revolution = r.revolution;
    }

long : (r : Record) (ns : List ℤ) → ltb (length (numbers_of r ++ ns)) 22 ≡ false
unfolding numbers_of
long r ns = le-ltb (length (numbers_of r ++ ns)) 22 (omega arith)

class_at : (r : Record) (ns : List ℤ) → is_class (byte (at (numbers_of r ++ ns) 1)) ≡ true
unfolding numbers_of
class_at r ns = ap is_class (letter_back r.class) ∙ class_is r.class

given_back : (r : Record) (ns : List ℤ) → Held r → given_of (numbers_of r ++ ns) ≡ Ok r
unfolding given_of
given_back r ns k = rw (long r ns, class_at r ns) (ap Ok (record_back r ns k))

pub stored_is_given : StoredIsGiven
unfolding stored_over store_refusal
stored_is_given r ns h k = rw (h, le-ltb (length ns) 22 k) (given_back r (drop 22 ns) (formed r (legal_in_form r h)))

pub judged_as_read : JudgedAsRead
unfolding judged_of fields_over fields_refusal
judged_as_read line1 line2 f ns e k =
    let h = (forms_yield line1 line2 f e).0 in
    rw (h, le-ltb (length ns) 22 k, given_back f.0 (drop 22 ns) (formed f.0 h))
    (ap Some (gone_on_lem line1 line2 (sym e) refl (ap meaning_of (sym (forms_yield line1 line2 f e).1))))

-- ── numbers that give a legal record are the record's ──

whole_back : (x : ℤ) → whole x < 2 ^ 63 → x ≡ pos (whole x)
unfolding whole
whole_back (pos n) h = refl
whole_back (negsuc n) h = absurd (omega arith)

-- a byte that is not 0
byte_by : (t : Bool) (x : ℤ) → ltb (whole x) 256 ≡ t → 0 < byte x → x ≡ pos (byte x)
unfolding byte
byte_by true x e h = rw e (whole_back x (omega (arith, ltb-true (whole x) 256 e)))
byte_by false x e h = absurd (let z : 0 < 0 = rw e at h in omega arith)

-- U, C and S are their letters
class_by_lem : (t u : Bool) (b : ℕ) → eqb b 85 ≡ t → eqb b 67 ≡ u → is_class b ≡ true → b ≡ letter (class_of b)
unfolding is_class class_of letter
class_by_lem true u b e f h = rw e (eqb-true b 85 e)
class_by_lem false true b e f h = rw (e, f) (eqb-true b 67 f)
class_by_lem false false b e f h = rw (e, f) (eqb-true b 83 (rw (e, f) at h))

-- the places of a designator made from numbers are those numbers
places_back : (x y z w : Bool) (n a b c : ℕ) → eqb n 0 ≡ x → eqb a 32 ≡ y → eqb b 32 ≡ z → eqb c 32 ≡ w
    → places_of (designator_from n a b c) ≡ record { launch = n; a = a; b = b; c = c }
unfolding places_of designator_from
places_back true true true true n a b c p q r s = rw (p, q, r, s, eqb-true n 0 p, eqb-true a 32 q, eqb-true b 32 r, eqb-true c 32 s)
places_back false y z w n a b c p q r s = rw p
places_back true false z w n a b c p q r s = rw (p, q)
places_back true true false w n a b c p q r s = rw (p, q, r)
places_back true true true false n a b c p q r s = rw (p, q, r, s)

-- n numbers from the k-th on
abbrev from : ℕ → ℕ → List ℤ → List ℤ
from k zero ns = []
from k (suc n) ns = at ns k ∷ from (suc k) n ns

taken_from : (k n : ℕ) (ns : List ℤ) → k + n ≤ length ns → take n (drop k ns) ≡ from k n ns
taken_from k zero ns h = refl
taken_from k (suc n) ns h =
    ap (take (suc n)) (drop-cons ns k (pos 0) (omega arith)) ∙ ap (λ l. at ns k ∷ l) (taken_from (suc k) n ns (omega arith))

placed : (n a b c : ℕ) → places_of (designator_from n a b c) ≡ record { launch = n; a = a; b = b; c = c }
placed n a b c = places_back (eqb n 0) (eqb a 32) (eqb b 32) (eqb c 32) n a b c refl refl refl refl

abbrev fields_or : Record → Result Record GivenRefusal → Record
fields_or d (Ok r) = r
fields_or d (Err given_refusal.NoClass) = d
fields_or d (Err given_refusal.TooShort) = d

given_by : (s k : Bool) (x r : Record) → cond s (Err given_refusal.TooShort) (cond k (Ok x) (Err given_refusal.NoClass)) ≡ Ok r → (s ≡ false) × (k ≡ true) × (x ≡ r)
given_by true k x r e = let z : ◌≡◌ {A = ℕ} 0 1 = cc in absurd (omega arith)
given_by false true x r e = (refl, refl, ap (fields_or r) e)
given_by false false x r e = let z : ◌≡◌ {A = ℕ} 0 1 = cc in absurd (omega arith)

numbers_back : (ns : List ℤ) → is_class (byte (at ns 1)) ≡ true → Held (record_at ns) → Small (record_at ns) → from 0 22 ns ≡ numbers_of (record_at ns)
unfolding record_at designator_at numbers_of
numbers_back ns c f k =
    let d = placed (whole (at ns 2)) (byte (at ns 3)) (byte (at ns 4)) (byte (at ns 5)) in
    let b = places_small (designator_at ns) f.designator in
    let w = byte (at ns 1) in
    let class = class_by_lem (eqb w 85) (eqb w 67) w refl refl c in
    let byte-is : (x : ℤ) (p : Places → ℕ) → p (places_of (designator_at ns)) ≡ byte x → 0 < p (places_of (designator_at ns)) → x ≡ pos (p (places_of (designator_at ns))) =
    λ x p e h. byte_by (ltb (whole x) 256) x refl (omega arith) ∙ sym (ap pos e) in
    λ i.
    whole_back (at ns 0) k.4 i
    ∷ (byte_by (ltb (whole (at ns 1)) 256) (at ns 1) refl (omega (arith, class, class_byte (class_of w))) ∙ ap pos class) i
    ∷ (whole_back (at ns 2) (omega (arith, k.0, ap (λ p. p.launch) d)) ∙ sym (ap (λ p. pos p.launch) d)) i
    ∷ byte-is (at ns 3) (λ p. p.a) (ap (λ p. p.a) d) b.1.0 i
    ∷ byte-is (at ns 4) (λ p. p.b) (ap (λ p. p.b) d) b.2.0 i
    ∷ byte-is (at ns 5) (λ p. p.c) (ap (λ p. p.c) d) b.3.0 i
    ∷ whole_back (at ns 6) k.5 i
    ∷ whole_back (at ns 7) k.6 i
    ∷ at ns 8 ∷ at ns 9 ∷ at ns 10 ∷ at ns 11 ∷ at ns 12
    ∷ whole_back (at ns 13) k.7 i
    ∷ whole_back (at ns 14) k.8 i
    ∷ whole_back (at ns 15) k.9 i
    ∷ whole_back (at ns 16) k.10 i
    ∷ whole_back (at ns 17) k.11 i
    ∷ whole_back (at ns 18) k.12 i
    ∷ whole_back (at ns 19) k.13 i
    ∷ whole_back (at ns 20) k.14 i
    ∷ whole_back (at ns 21) k.15 i
    ∷ []

pub given_is_stored : GivenIsStored
unfolding given_of
given_is_stored r ns e h =
    let g = given_by (ltb (length ns) 22) (is_class (byte (at ns 1))) (record_at ns) r e in
    let l = rw (← g.2) at h in
    taken_from 0 22 ns (omega (arith, ltb-false (length ns) 22 g.0)) ∙ numbers_back ns g.1 (formed (record_at ns) (legal_in_form (record_at ns) l)) (small (record_at ns) l) ∙ ap numbers_of g.2
