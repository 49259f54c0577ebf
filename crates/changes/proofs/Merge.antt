-- The first roster with the listed changes applied is the second.
use Prim.Native.Nat.{ℕ, ◌+◌, ◌<◌, ◌≤◌}
use mathlib.Core.Path.{◌≡◌, refl, ap, sym, ◌∙◌}
use mathlib.Core.Bool.{Bool, true, false}
use mathlib.Core.List.{List, [], ◌∷◌, ◌++◌, append-nil}
use native.Mathlib.Omega.{arith}
use borrow.Author.Tests.{lt-ltb, le-ltb, eq-eqb, ne_eqb, ltb-true, ltb-false, eqb-true, eqb-false}
use lib.Dec.{eqb, ltb}
use lib.Seq.{append_snoc}
use Rattle.tle.specs.Legal.{legal}
use Rattle.tle.specs.declared.Record.{Record}
use Rattle.roster.specs.Records.{Rising, end, next, lodged, withdrawn}
use Rattle.roster.proofs.Sorted.{weaker}
use Rattle.changes.specs.Entry.{Entry, differences, patch, patch_all}
use Rattle.changes.specs.Changes.{Change, First, Second, fields, seconds, against, listed, patched, applied}
use Rattle.changes.specs.Claims.{AppliedIsSecond}
use Rattle.changes.proofs.Fields.{undoes}
use Rattle.tle_writer.proofs.Facts.{facts}

-- ── what is done stands in front: records below low ──

abbrev Under : ℕ → List Record → Type 0
Under low [] = Unit {0}
Under low (s ∷ ps) = (s.number < low) × Under low ps

under_more : (l low : ℕ) (ps : List Record) → low ≤ l → Under low ps → Under l ps
under_more l low [] h u = tt
under_more l low (s ∷ ps) h u = (let g = u.0 in omega arith, under_more l low ps h u.1)

under_snoc : (low : ℕ) (ps : List Record) (s : Record) → Under low ps → s.number < low → Under low (ps ++ (s ∷ []))
under_snoc low [] s u h = (h, tt)
under_snoc low (p ∷ ps) s u h = (u.0, under_snoc low ps s u.1 h)

lodged_past : (r : Record) (ps xs : List Record) → Under r.number ps → lodged r (ps ++ xs) ≡ ps ++ lodged r xs
unfolding lodged
lodged_past r [] xs u = refl
lodged_past r (p ∷ ps) xs u = rw (lt-ltb p.number r.number u.0) (ap (λ (t : List Record). p ∷ t) (lodged_past r ps xs u.1))

withdrawn_past : (n : ℕ) (ps xs : List Record) → Under n ps → withdrawn n (ps ++ xs) ≡ ps ++ withdrawn n xs
unfolding withdrawn
withdrawn_past n [] xs u = refl
withdrawn_past n (p ∷ ps) xs u =
    let g = u.0 in
    rw (ne_eqb p.number n (λ e. omega arith)) (ap (λ (t : List Record). p ∷ t) (withdrawn_past n ps xs u.1))

patched_past : (n : ℕ) (d : Entry) (ps xs : List Record) → Under n ps → patched n d (ps ++ xs) ≡ ps ++ patched n d xs
unfolding patched
patched_past n d [] xs u = refl
patched_past n d (p ∷ ps) xs u =
    let g = u.0 in
    rw (ne_eqb p.number n (λ e. omega arith)) (ap (λ (t : List Record). p ∷ t) (patched_past n d ps xs u.1))

-- the fields of one record, one after the other
fields_applied : (n : ℕ) (es : List Entry) (cs : List Change) (ps : List Record) (r : Record) (xs : List Record) → r.number ≡ n → Under n ps
    → applied (fields n es ++ cs) (ps ++ r ∷ xs) ≡ applied cs (ps ++ patch_all es r ∷ xs)
unfolding fields applied patch_all patched
fields_applied n [] cs ps r xs h u = refl
fields_applied n (e ∷ es) cs ps r xs h u =
    ap (applied (fields n es ++ cs)) (patched_past n e ps (r ∷ xs) u ∙ rw (eq-eqb r.number n h))
    ∙ fields_applied n es cs ps (patch e r) xs h u

-- what is left of the second roster only
coming : (low : ℕ) (ps : List Record) {bs : List Record} → Rising low bs → Under low ps → applied (seconds bs) (ps ++ []) ≡ ps ++ bs
unfolding applied seconds lodged
coming low ps end u = refl
coming low ps (next {r = b} {rs = bs} g l q) u =
    ap (applied (seconds bs)) (lodged_past b ps [] (under_more b.number low ps g u) ∙ sym (append-nil (ps ++ (b ∷ []))))
    ∙ coming (b.number + 1) (ps ++ (b ∷ [])) q (under_snoc (b.number + 1) ps b (under_more (b.number + 1) low ps (omega arith) u) (omega arith))
    ∙ append_snoc ps b bs

-- a is the next of the first roster, and the law is known of what follows it
module _ (a : Record) (xs : List Record) (good : legal a ≡ true) (rising : Rising (a.number + 1) xs)
    (more : (ps bs : List Record) → Rising (a.number + 1) bs → Under (a.number + 1) ps → applied (listed xs bs) (ps ++ xs) ≡ ps ++ bs) where
  -- a goes
  gone : (low : ℕ) (ps bs : List Record) → low ≤ a.number → Rising (a.number + 1) bs → Under low ps
      → applied (First a ∷ listed xs bs) (ps ++ a ∷ xs) ≡ ps ++ bs
  unfolding applied withdrawn
  gone low ps bs h q u =
      let out : withdrawn a.number (ps ++ a ∷ xs) ≡ ps ++ xs =
      withdrawn_past a.number ps (a ∷ xs) (under_more a.number low ps h u) ∙ rw (eq-eqb a.number a.number refl) in
      ap (applied (listed xs bs)) out
      ∙ more ps bs q (under_more (a.number + 1) low ps (omega arith) u)

  -- b has a's number
  same : (low : ℕ) (ps bs : List Record) (b : Record) → low ≤ a.number → b.number ≡ a.number → legal b ≡ true → Rising (b.number + 1) bs → Under low ps
      → applied (fields a.number (differences a b) ++ listed xs bs) (ps ++ a ∷ xs) ≡ ps ++ b ∷ bs
  same low ps bs b h e l q u =
      let front : Under (a.number + 1) (ps ++ (b ∷ [])) = under_snoc (a.number + 1) ps b (under_more (a.number + 1) low ps (omega arith) u) (omega arith) in
      let behind : Rising (a.number + 1) bs = weaker (a.number + 1) (omega arith) q in
      fields_applied a.number (differences a b) (listed xs bs) ps a xs refl (under_more a.number low ps h u)
      ∙ ap (λ (r : Record). applied (listed xs bs) (ps ++ r ∷ xs)) (undoes a b (facts a good) (facts b l) (sym e))
      ∙ ap (applied (listed xs bs)) (sym (append_snoc ps b xs)) ∙ more (ps ++ (b ∷ [])) bs behind front ∙ append_snoc ps b bs

  -- b comes before a
  comes : (low : ℕ) (ps bs : List Record) (b : Record) → low ≤ b.number → b.number < a.number → Under low ps
      → ((ps : List Record) → Under (b.number + 1) ps → applied (against a (λ l. listed xs l) bs) (ps ++ a ∷ xs) ≡ ps ++ bs)
      → applied (Second b ∷ against a (λ l. listed xs l) bs) (ps ++ a ∷ xs) ≡ ps ++ b ∷ bs
  unfolding applied lodged
  comes low ps bs b h g u on =
      let put : lodged b (ps ++ a ∷ xs) ≡ ps ++ (b ∷ []) ++ a ∷ xs =
      lodged_past b ps (a ∷ xs) (under_more b.number low ps h u)
      ∙ rw (le-ltb a.number b.number (omega arith), ne_eqb a.number b.number (λ e. omega arith)) (sym (append_snoc ps b (a ∷ xs))) in
      ap (applied (against a (λ l. listed xs l) bs)) put
      ∙ on (ps ++ (b ∷ [])) (under_snoc (b.number + 1) ps b (under_more (b.number + 1) low ps (omega arith) u) (omega arith))
      ∙ append_snoc ps b bs

  met : (x y : Bool) (low : ℕ) (ps bs : List Record) (b : Record) → ltb b.number a.number ≡ x → eqb b.number a.number ≡ y
      → low ≤ a.number → low ≤ b.number → legal b ≡ true → Rising (b.number + 1) bs → Under low ps
      → ((ps : List Record) → b.number + 1 ≤ a.number → Under (b.number + 1) ps → applied (against a (λ l. listed xs l) bs) (ps ++ a ∷ xs) ≡ ps ++ bs)
      → applied (against a (λ l. listed xs l) (b ∷ bs)) (ps ++ a ∷ xs) ≡ ps ++ b ∷ bs
  unfolding against
  met true y low ps bs b e f h g l q u on =
      let less = ltb-true b.number a.number e in
      rw e (comes low ps bs b g less u (λ ps v. on ps (omega arith) v))
  met false true low ps bs b e f h g l q u on = rw (e, f) (same low ps bs b h (eqb-true b.number a.number f) l q u)
  met false false low ps bs b e f h g l q u on =
      let d = eqb-false b.number a.number f in
      let k : a.number + 1 ≤ b.number = omega (arith, ltb-false b.number a.number e, d) in
      rw (e, f) (gone low ps (b ∷ bs) h (next k l q) u)

  pub walked : (low : ℕ) (ps : List Record) {bs : List Record} → low ≤ a.number → Rising low bs → Under low ps
      → applied (against a (λ l. listed xs l) bs) (ps ++ a ∷ xs) ≡ ps ++ bs
  unfolding against
  walked low ps h end u = gone low ps [] h end u
  walked low ps h (next {r = b} {rs = bs} g l q) u =
      met (ltb b.number a.number) (eqb b.number a.number) low ps bs b refl refl h g l q u (λ qs k v. walked (b.number + 1) qs k q v)

pub merged : (low : ℕ) (ps bs : List Record) {xs : List Record} → Rising low xs → Rising low bs → Under low ps → applied (listed xs bs) (ps ++ xs) ≡ ps ++ bs
unfolding listed
merged low ps bs end q u = coming low ps q u
merged low ps bs (next {r = a} {rs = xs} g l p) q u =
    walked a xs l p (λ ps' bs' q' u'. merged (a.number + 1) ps' bs' p q' u') low ps g q u

pub applied_is_second : AppliedIsSecond
applied_is_second xs bs p q = merged 0 [] bs p q tt
