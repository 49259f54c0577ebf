-- Windows as a loop comes by them: at most one run is open. There are at most half as many windows as samples, rounded up.
use mathlib.Core.Path.{◌≡◌, refl, ap, subst}
use mathlib.Core.Bool.{Bool, true, false, cond}
use mathlib.Core.List.{List, [], ◌∷◌}
use Prim.Native.Nat.{ℕ, ◌+◌, ◌/◌, ◌≤◌}
use native.Mathlib.Omega.{arith}
use lib.ListN.{length}
use Rattle.runs.specs.Runs.{Sample, Window, last_of_run, windows_from}
use Rattle.runs.specs.Words.{RoomEnough}

-- no run is open; or one is, from its first sample to its last so far
pub data Run : Type 0 where
  closed : Run
  going : ℕ → ℕ → Run

abbrev pub end : Run → List Window → List Window
end closed ws = ws
end (going a b) ws = record { first = a; last = b } ∷ ws

abbrev pub further : Run → ℕ → Run
further closed x = going x x
further (going a b) x = going a x

abbrev pub runs : Run → List Sample → List Window
runs o [] = end o []
runs o (s ∷ ss) = cond s.visible (runs (further o s.instant) ss) (end o (runs closed ss))

-- ── they are the windows ──

-- what is left to come, by the run that is open
abbrev Left : Run → List Sample → List Window
Left closed ss = windows_from false ss
Left (going a b) ss = record { first = a; last = last_of_run b ss } ∷ windows_from true ss

step : (o : Run) (s : Sample) (ss : List Sample) → runs (further o s.instant) ss ≡ Left (further o s.instant) ss → runs closed ss ≡ Left closed ss
    → (b : Bool) → s.visible ≡ b → runs o (s ∷ ss) ≡ Left o (s ∷ ss)
step closed s ss h k true e = rw e h
step closed s ss h k false e = rw e k
step (going a b) s ss h k true e = rw e h
step (going a b) s ss h k false e = rw e (ap (λ (ws : List Window). record { first = a; last = b } ∷ ws) k)

left : (o : Run) (ss : List Sample) → runs o ss ≡ Left o ss
left closed [] = refl
left (going a b) [] = refl
left o (s ∷ ss) = step o s ss (left (further o s.instant) ss) (left closed ss) s.visible refl

pub loops : (ss : List Sample) → runs closed ss ≡ windows_from false ss
loops ss = left closed ss

-- ── how many ──

-- one run more may be open
abbrev more : Run → ℕ
more closed = 0
more (going a b) = 1

count : (b : Bool) (o : Run) (s : Sample) (ss : List Sample) → length (runs (further o s.instant) ss) ≤ (length ss + 1 + 1) / 2 → length (runs closed ss) ≤ (length ss + 1) / 2
    → length (cond b (runs (further o s.instant) ss) (end o (runs closed ss))) ≤ (length (s ∷ ss) + 1 + more o) / 2
count true closed s ss h k = omega arith
count true (going a b) s ss h k = omega arith
count false closed s ss h k = omega arith
count false (going a b) s ss h k = omega arith

further_more : (o : Run) (x : ℕ) (n : ℕ) → (n + 1 + more (further o x)) / 2 ≤ (n + 1 + 1) / 2
further_more closed x n = omega arith
further_more (going a b) x n = omega arith

few : (o : Run) (ss : List Sample) → length (runs o ss) ≤ (length ss + 1 + more o) / 2
few closed [] = omega arith
few (going a b) [] = omega arith
few o (s ∷ ss) =
    count s.visible o s ss (omega (arith, few (further o s.instant) ss, further_more o s.instant (length ss))) (omega (arith, few closed ss))

pub room_enough : RoomEnough
room_enough ss = subst (λ (ws : List Window). length ws ≤ (length ss + 1) / 2) (loops ss) (omega (arith, few closed ss))
