-- What a lawful verdict says of the tests that led to it.
use mathlib.Core.Path.{◌≡◌, refl, sym, ap, ◌∙◌}
use mathlib.Core.Bool.{Bool, true, false}
use Prim.Native.Nat.{ℕ, ◌+◌}
use native.Mathlib.Omega.{arith}
use borrow.Author.Tests.{eqb-true}
use lib.Dec.{eqb, ltb}
use lib.ListN.{length, get_or}
use mathlib.Core.List.{List}
use Rattle.columns.specs.Layout.{agreed, layout1, layout2}
use Rattle.columns.specs.Sum.{digit_of}
use Rattle.tle.specs.Read.{unless, then, checksum_of, verdict_of, number_at, pair_of}
use Rattle.tle.specs.declared.Line.{Line}
use Rattle.tle.specs.declared.Line.TheVariants.{One, Two}
use Rattle.tle.specs.declared.Refusal.{Refusal}
use Rattle.tle.specs.declared.Refusal.TheVariants.{Length, Start, Column, Checksum, Numbers}
use Rattle.std.specs.Prelude.{Err, Ok, Result}
use Rattle.std.specs.Result.{IsErrAnd}
use Rattle.std.proofs.lemmas.Result.{err_from_is_err_and}

through : (test : Bool) (why : Refusal) (next : Result (Unit {0}) Refusal) → unless test (Err why) next ≡ Ok tt → (test ≡ true) × (next ≡ Ok tt)
through true why next e = (refl, e)
through false why next e = let z : ◌≡◌ {A = ℕ} 0 1 = cc in absurd (omega arith)

both : (first second : Result (Unit {0}) Refusal) → then first second ≡ Ok tt → (first ≡ Ok tt) × (second ≡ Ok tt)
both (Ok tt) second e = (refl, e)
both (Err why) second e = let z : ◌≡◌ {A = ℕ} 0 1 = cc in absurd (omega arith)

-- a lawful line has 69 columns, and all agree with the layout
pub lawful : (which : Line) (layout line : List ℕ) → verdict_of which layout line ≡ Ok tt → (length line ≡ 69) × (agreed layout true line ≡ 69)
unfolding verdict_of
lawful which layout line e =
    let n = agreed layout true line in
    let sums = unless (eqb (checksum_of line) (digit_of (get_or line 68 0))) (Err (Checksum which)) (Ok tt) in
    let agrees = unless (eqb n 69) (Err (Column which (n + 1))) sums in
    let starts = unless (ltb 0 n) (Err (Start which)) agrees in
    let a = through (eqb (length line) 69) (Length which) starts e in
    let b = through (ltb 0 n) (Start which) agrees a.1 in
    let c = through (eqb n 69) (Column which (n + 1)) sums b.1 in
    (eqb-true (length line) 69 a.0, eqb-true n 69 c.0)

-- of a lawful pair both lines are
pub pair : (line1 line2 : List ℕ) → pair_of line1 line2 ≡ Ok tt → (verdict_of One layout1 line1 ≡ Ok tt) × (verdict_of Two layout2 line2 ≡ Ok tt)
unfolding pair_of
pair line1 line2 e =
    let numbers = unless (eqb (number_at line1) (number_at line2)) (Err Numbers) (Ok tt) in
    let second = then (verdict_of Two layout2 line2) numbers in
    let a = both (verdict_of One layout1 line1) second e in
    (a.0, (both (verdict_of Two layout2 line2) numbers a.1).0)

pub lengths : (line1 line2 : List ℕ) → pair_of line1 line2 ≡ Ok tt → (length line1 ≡ 69) × (length line2 ≡ 69)
lengths line1 line2 e = let p = pair line1 line2 e in ((lawful One layout1 line1 p.0).0, (lawful Two layout2 line2 p.1).0)

-- what `?` passes up where the error stays the same
pub passed : {T E : Type 0} (r : Result T E) (why : E) → IsErrAnd r (λ w. w ≡ why) → r ≡ Err why
passed r why h = let g = err_from_is_err_and r h in g.1 ∙ ap Err g.2

-- a refused verdict is the last
pub stops : (first : Result (Unit {0}) Refusal) (why : Refusal) (second : Result (Unit {0}) Refusal) → first ≡ Err why → then first second ≡ first
stops first why second e = rw e

pub goes_on : (first second : Result (Unit {0}) Refusal) → first ≡ Ok tt → then first second ≡ second
goes_on first second e = rw e

-- a test that a call made
pub yes : {r test : Bool} → r ≡ test → r ≡ true → test ≡ true
yes {r = r} e h = sym e ∙ h

pub no : {r test : Bool} → r ≡ test → r ≡ false → test ≡ false
no {r = r} e h = sym e ∙ h
