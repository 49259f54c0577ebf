-- Document 02, wish 7, of the records of two rosters: what differs between them, and how the changes are applied to the first.
use Rattle.std.specs.Prelude.{ℕ, cond, List, [], ◌∷◌, ◌++◌, eqb, ltb}
use Rattle.tle.specs.declared.Record.{Record}
use Rattle.roster.specs.Records.{lodged, withdrawn}
use Rattle.changes.specs.Entry.{Entry, differences, patch}

-- one line of the listing: a pair of the first roster only, one of the second only, or a field of the pair of a number in both
pub data Change : Type 0 where
  First : Record → Change
  Second : Record → Change
  Field : ℕ → Entry → Change

unfoldable pub fields : ℕ → List Entry → List Change
fields n [] = []
fields n (e ∷ es) = Field n e ∷ fields n es

unfoldable pub seconds : List Record → List Change
seconds [] = []
seconds (b ∷ bs) = Second b ∷ seconds bs

-- the record a of the first roster against the second's; rest lists the first's later records against what is left
unfoldable pub against : Record → (List Record → List Change) → List Record → List Change
against a rest [] = First a ∷ rest []
against a rest (b ∷ bs) =
    cond (ltb b.number a.number) (Second b ∷ against a rest bs)
    (cond (eqb b.number a.number) (fields a.number (differences a b) ++ rest bs) (First a ∷ rest (b ∷ bs)))

-- "by rising catalogue number"
unfoldable pub listed : List Record → List Record → List Change
listed [] bs = seconds bs
listed (a ∷ xs) bs = against a (λ l. listed xs l) bs

-- ── applied ──

unfoldable pub patched : ℕ → Entry → List Record → List Record
patched n e [] = []
patched n e (s ∷ rs) = cond (eqb s.number n) (patch e s ∷ rs) (s ∷ patched n e rs)

-- a pair of the first only is withdrawn, one of the second only lodged, and a field set or moved
unfoldable pub applied : List Change → List Record → List Record
applied [] rs = rs
applied (First a ∷ cs) rs = applied cs (withdrawn a.number rs)
applied (Second b ∷ cs) rs = applied cs (lodged b rs)
applied (Field n e ∷ cs) rs = applied cs (patched n e rs)
