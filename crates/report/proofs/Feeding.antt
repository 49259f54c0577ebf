-- How the text is cut into pieces does not matter (`cuts`); and the turns of the loop of `feed`.
use Prim.Native.Nat.{ℕ, ◌<◌, ◌≤◌, ◌+◌, ◌-◌}
use mathlib.Core.Path.{◌≡◌, refl, ap, ◌∙◌}
use mathlib.Core.List.{List, [], ◌∷◌, ◌++◌}
use native.Mathlib.Omega.{arith}
use native.Mathlib.Numerals.{add-one}
use lib.ListN.{length, take, drop, get_or, drop_of_length-le}
use lib.Seq.{drop-cons}
use Rattle.text.specs.Input as text
use Rattle.text.specs.declared.input.Lines.{Lines}
use Rattle.report.specs.declared.State.{State}
use Rattle.report.specs.State.{stepped, fed, settled, More}

-- two pieces fed one after the other are one piece
pub cuts : (s : State) (a b : List ℕ) → fed (fed s a) b ≡ fed s (a ++ b)
unfolding fed
cuts s [] b = refl
cuts s (x ∷ a) b = cuts (stepped s x) a b

-- the piece of one byte that a turn of the loop hands on
one : (p : List ℕ) (i : ℕ) → i < length p → take (i + 1 - i) (drop i p) ≡ get_or p i 0 ∷ []
one p i h = let e : i + 1 - i ≡ 1 = omega arith in rw (e, drop-cons p i 0 h)

one_byte : (l : Lines) (b : ℕ) → text.fed l (b ∷ []) ≡ text.stepped l b
unfolding text.fed
one_byte l b = refl

pub turn : (s r : State) (p : List ℕ) (i : ℕ) → i < length p → r ≡ settled (text.fed s.lines (take (i + 1 - i) (drop i p))) s.count
    → fed s (drop i p) ≡ fed r (drop (i + 1) p)
unfolding fed stepped
turn s r p i h e =
    let g : r ≡ stepped s (get_or p i 0) = e ∙ ap (λ x. settled x s.count) (ap (text.fed s.lines) (one p i h) ∙ one_byte s.lines (get_or p i 0)) in
    rw (g, add-one, drop-cons p i 0 h)

pub end : (s : State) (p : List ℕ) (i : ℕ) → length p ≤ i → fed s (drop i p) ≡ s
unfolding fed
end s p i h = rw (drop_of_length-le p h)

pub no_more : (s : State) → More s s
unfolding fed
no_more s = record { piece = []; is = refl }

pub more : {s r t : State} → More s r → More r t → More s t
more {s} {r} {t} p q = record {
  piece = p.piece ++ q.piece;
  is = q.is ∙ ap (λ x. fed x q.piece) p.is ∙ cuts s p.piece q.piece;
}
