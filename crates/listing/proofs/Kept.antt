-- The 70 bytes that are kept of each line decide what reading gives, so what is printed is the pair of the whole input.
use Prim.Native.Nat.{ℕ, ◌-◌, ◌<◌, ◌≤◌, min}
use mathlib.Core.Path.{◌≡◌, refl, sym, ap, ◌∙◌}
use mathlib.Core.List.{List}
use mathlib.Core.Bool.{Bool, true, false}
use native.Mathlib.Omega.{arith}
use lib.Dec.{leb}
use lib.ListN.{length, take, length-take}
use lib.Seq.{take_all}
use borrow.Author.Tests.{leb-true, leb-false, ne_eqb}
use Rattle.text.specs.Input.{line1, line2, kept}
use Rattle.text.proofs.Whole.{whole}
use Rattle.columns.specs.Layout.{layout1, layout2}
use Rattle.tle.specs.Read.{verdict_of, then, pair_of, fields_of, formed, form_of, ranged, read_of}
use Rattle.tle.specs.declared.Line.{Line}
use Rattle.tle.specs.declared.Line.TheVariants.{One, Two}
use Rattle.tle.specs.declared.Record.{Record}
use Rattle.tle.specs.declared.Refusal.{Refusal}
use Rattle.tle.specs.declared.Refusal.TheVariants.{Length}
use Rattle.std.specs.Prelude.{Err, Ok, Result}
use Rattle.listing.specs.Listing.{reading_text, lines_text, pair_text}
use Rattle.listing.specs.Claims.{FedPrintsWhole, SeventyDecide}

-- a line of more than 69 bytes is refused, whatever they are
long : (which : Line) (layout a : List ℕ) → 69 < length a → verdict_of which layout a ≡ Err (Length which)
unfolding verdict_of
long which layout a h = rw (ne_eqb (length a) 69 (λ e. omega arith))

shorter : (a : List ℕ) → 70 < length a → 69 < length (take 70 a)
shorter a h = simp length-take (omega arith)

-- where the second line is refused, no field counts
no_fields : (v : Result (Unit {0}) Refusal) (why : Refusal) (r r' : Record) → ranged (formed (then v (Err why)) r) ≡ ranged (formed (then v (Err why)) r')
no_fields (Ok tt) why r r' = refl
no_fields (Err other) why r r' = refl

first_kept : (a b : List ℕ) (t : Bool) → leb (length a) 70 ≡ t → read_of (take 70 a) b ≡ read_of a b
unfolding read_of form_of pair_of
first_kept a b true e = rw (take_all 70 a (leb-true (length a) 70 e))
first_kept a b false e =
    let h : 70 < length a = leb-false (length a) 70 e in
    rw (long One layout1 (take 70 a) (shorter a h), long One layout1 a (omega arith))

second_kept : (a b : List ℕ) (t : Bool) → leb (length b) 70 ≡ t → read_of a (take 70 b) ≡ read_of a b
unfolding read_of form_of pair_of
second_kept a b true e = rw (take_all 70 b (leb-true (length b) 70 e))
second_kept a b false e =
    let h : 70 < length b = leb-false (length b) 70 e in
    rw (long Two layout2 (take 70 b) (shorter b h), long Two layout2 b (omega arith))
    (no_fields (verdict_of One layout1 a) (Length Two) (fields_of a (take 70 b)) (fields_of a b))

pub enough : SeventyDecide
enough a b = first_kept a (kept b) (leb (length a) 70) refl ∙ second_kept a b (leb (length b) 70) refl

pub fed_text : FedPrintsWhole
unfolding lines_text pair_text
fed_text input =
    let w = whole input in
    ap reading_text (rw (w.first, w.second) (enough (line1 input) (line2 input)))

-- a size past the end of the bytes says no more than their number
held_by : (size : ℕ) (bytes : List ℕ) (t : Bool) → leb size 70 ≡ t → length bytes ≡ 70 → take (min size 70) bytes ≡ take size bytes
held_by size bytes true e h = let g : size ≤ 70 = leb-true size 70 e in let m : min size 70 ≡ size = omega arith in rw m
held_by size bytes false e h =
    let g : 70 < size = leb-false size 70 e in
    let m : min size 70 ≡ 70 = omega arith in
    rw m (take_all 70 bytes (omega arith) ∙ sym (take_all size bytes (omega arith)))

-- what the code's `&bytes[0..n]` holds
pub held_part : (n size : ℕ) (bytes : List ℕ) → length bytes ≡ 70 → n ≡ min size 70 → take (n - 0) bytes ≡ take size bytes
held_part n size bytes h e = let m : n - 0 ≡ min size 70 = omega arith in rw m (held_by size bytes (leb size 70) refl h)
