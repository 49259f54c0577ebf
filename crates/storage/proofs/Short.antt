-- Which memory is too short for a satellite near the Earth.
use Prim.Native.Nat.{ℕ, ◌≤◌, ◌<◌}
use mathlib.Core.Path.{◌≡◌}
use mathlib.Core.Bool.{true, false}
use borrow.Author.Tests.{lt-ltb, le-ltb}
use Rattle.storage.specs.Near.{near_short}

pub few_numbers : (n m : ℕ) → n < 36 → near_short n m ≡ true
unfolding near_short
few_numbers n m h = simp (lt-ltb n 36 h)

pub few_marks : (n m : ℕ) → 36 ≤ n → m < 6 → near_short n m ≡ true
unfolding near_short
few_marks n m h k = simp (le-ltb n 36 h, lt-ltb m 6 k)

pub enough : (n m : ℕ) → 36 ≤ n → 6 ≤ m → near_short n m ≡ false
unfolding near_short
enough n m h k = simp (le-ltb n 36 h, le-ltb m 6 k)
