-- How the input is cut into pieces does not matter (`cuts` for `feed`, `line_cuts` for `gather`); and the turns of the loop of `feed`.
use Prim.Native.Nat.{ℕ, ◌<◌, ◌≤◌, ◌+◌}
use mathlib.Core.Path.{◌≡◌, refl, sym, ap, ◌∙◌}
use mathlib.Core.List.{List, [], ◌∷◌, ◌++◌}
use mathlib.Core.Bool.{Bool, true, false, cond}
use native.Mathlib.Omega.{arith}
use native.Mathlib.Numerals.{add-one}
use lib.Dec.{eqb}
use lib.ListN.{length, drop, get_or, drop_of_length-le}
use lib.Seq.{drop-cons}
use Rattle.text.specs.declared.input.Lines.{Lines}
use Rattle.text.specs.Output.{Put}
use Rattle.text.specs.Input.{line_of, ended_in, stepped, fed, More}
use Rattle.text.proofs.Pieces.{both, same}

-- two pieces fed one after the other are one piece
pub cuts : (s : Lines) (a b : List ℕ) → fed (fed s a) b ≡ fed s (a ++ b)
unfolding fed
cuts s [] b = refl
cuts s (x ∷ a) b = cuts (stepped s x) a b

kept_on : (t : Bool) (x : ℕ) (s r u : List ℕ) (z : Bool) → cond t true z ≡ false → (z ≡ false → u ≡ s ++ r) → cond t [] (x ∷ u) ≡ cond t [] (x ∷ s) ++ r
kept_on true x s r u z h g = let w : ◌≡◌ {A = ℕ} 0 1 = cc in absurd (omega arith)
kept_on false x s r u z h g = ap (λ k. x ∷ k) (g h)

joined : (a b : List ℕ) → ended_in a ≡ false → line_of (a ++ b) ≡ line_of a ++ line_of b
unfolding line_of ended_in
joined [] b e = refl
joined (x ∷ a) b e = kept_on (eqb x 10) x (line_of a) (line_of b) (line_of (a ++ b)) (ended_in a) e (joined a b)

-- a line gathered from two pieces, the first of which has no newline, is the line of both
pub line_cuts : {l l' l'' : List ℕ} {n n' n'' : ℕ} (a b : List ℕ) → ended_in a ≡ false
    → Put l n (line_of a) l' n' → Put l' n' (line_of b) l'' n'' → Put l n (line_of (a ++ b)) l'' n''
line_cuts a b e p q = same (sym (joined a b e)) (both p q)

pub turn : (s : Lines) (p : List ℕ) (i : ℕ) → i < length p → fed s (drop i p) ≡ fed (stepped s (get_or p i 0)) (drop (i + 1) p)
unfolding fed
turn s p i h = rw (add-one, drop-cons p i 0 h)

pub end : (s : Lines) (p : List ℕ) (i : ℕ) → length p ≤ i → fed s (drop i p) ≡ s
unfolding fed
end s p i h = rw (drop_of_length-le p h)

pub no_more : (s : Lines) → More s s
unfolding fed
no_more s = record { piece = []; is = refl }

pub more : {s r t : Lines} → More s r → More r t → More s t
more {s} {r} {t} p q = record {
  piece = p.piece ++ q.piece;
  is = q.is ∙ ap (λ x. fed x q.piece) p.is ∙ cuts s p.piece q.piece;
}
