-- A grid's times by sign and size, and the parts of a line. Assumes nothing.
use Prim.Native.Nat.{ℕ, zero, suc, ◌+◌, ◌-◌, ◌*◌, ◌≤◌, ◌<◌, min}
use mathlib.Core.Path.{◌≡◌, refl, sym, ap, ◌∙◌}
use mathlib.Core.Bool.{Bool, true, false, cond}
use mathlib.Core.List.{List}
use native.Mathlib.Nat.{mul-le-mul, zero-add, sub-zero}
use native.Mathlib.Omega.{arith}
use lib.IntN.{ℤ, pos, ◌+ℤ◌}
use lib.ListN.{length, take, drop}
use borrow.Author.Tests.{lt-ltb, le-ltb}
use Rattle.floats.proofs.Branch.{yes, no}
use Rattle.request_line.specs.Times.{signed}
use Rattle.request_line.specs.Request.{begun}
use Rattle.text.specs.Output.{bytes}
use Rattle.station_text.specs.Words.{start_of}
use Rattle.station_text.proofs.Words.{tail}
use Rattle.ephemeris_requests.specs.declared.Grid.{Grid}
use Rattle.ephemeris_requests.specs.declared.Ask.{Ask}
use Rattle.ephemeris_requests.specs.declared.Ask.TheVariants as ask
use Rattle.ephemeris_requests.specs.declared.Fault.TheVariants as fault
use Rattle.ephemeris_requests.specs.Requests.{most_start, most_step, most_count, time_at, grid_of, instant_ask, other_of}

-- ---- n before the epoch, moved far onward
pub still_before : (n far : ℕ) → far < n → signed true (n - far) ≡ signed true n +ℤ pos far
unfolding signed
still_before zero far h = absurd (omega arith)
still_before (suc k) far h =
    let e : suc k - far ≡ suc (k - far) = omega arith in
    let d : suc k - suc far ≡ k - far = omega arith in
    rw (e, lt-ltb far (suc k) h, d)

pub behind_it : (n far : ℕ) → n ≤ far → signed false (far - n) ≡ signed true n +ℤ pos far
unfolding signed
behind_it zero far h = ap pos (sub-zero far ∙ sym (zero-add far))
behind_it (suc k) far h = rw (le-ltb far (suc k) h)

pub onward : (n far : ℕ) → signed false (n + far) ≡ signed false n +ℤ pos far
unfolding signed
onward n far = refl

pub far_most : (i step rows size : ℕ) → rows ≡ min i most_count → size ≡ min step most_step → rows * size ≤ 864000000000000000
far_most i step rows size e f = let a : rows ≤ 10000000 = omega arith in let b : size ≤ 86400000000 = omega arith in mul-le-mul a b

pub time_is : (g : Grid) (i : ℕ) (m : Bool) (n rows size : ℕ) {z : ℤ} → g.minus ≡ m → n ≡ min g.start most_start → rows ≡ min i most_count → size ≡ min g.step most_step
    → z ≡ signed m n +ℤ pos (rows * size) → z ≡ time_at g i
unfolding time_at
time_is g i m n rows size em en er es e =
    e ∙ ap (λ (k : ℕ). signed m k +ℤ pos (rows * size)) en
    ∙ ap (λ (k : ℕ). signed m (min g.start most_start) +ℤ pos (k * size)) er
    ∙ ap (λ (k : ℕ). signed m (min g.start most_start) +ℤ pos (min i most_count * k)) es
    ∙ ap (λ (b : Bool). signed b (min g.start most_start) +ℤ pos (min i most_count * min g.step most_step)) (sym em)

-- ---- what stands behind a word
module _ (s : List ℕ) where
  pub grid_line : {r : Ask} → begun (bytes "grid ") s ≡ true → r ≡ grid_of (take (length s - 5) (drop 5 s)) → r ≡ other_of s
  unfolding other_of
  grid_line h e = e ∙ ap grid_of (tail s 5 (length s - 5) refl) ∙ yes (begun (bytes "grid ") s) (grid_of (drop 5 s)) _ h

  pub instant_line : {r : Ask} → begun (bytes "grid ") s ≡ false → begun (bytes "at ") s ≡ true → r ≡ instant_ask (start_of (take (length s - 3) (drop 3 s))) → r ≡ other_of s
  unfolding other_of
  instant_line g h e =
      e ∙ ap (λ (t : List ℕ). instant_ask (start_of t)) (tail s 3 (length s - 3) refl)
      ∙ yes (begun (bytes "at ") s) (instant_ask (start_of (drop 3 s))) (ask.Bad fault.Request) h
      ∙ no (begun (bytes "grid ") s) (grid_of (drop 5 s)) (cond (begun (bytes "at ") s) (instant_ask (start_of (drop 3 s))) (ask.Bad fault.Request)) g

  pub no_line : begun (bytes "grid ") s ≡ false → begun (bytes "at ") s ≡ false → ask.Bad fault.Request ≡ other_of s
  unfolding other_of
  no_line g h =
      no (begun (bytes "at ") s) (instant_ask (start_of (drop 3 s))) (ask.Bad fault.Request) h
      ∙ no (begun (bytes "grid ") s) (grid_of (drop 5 s)) (cond (begun (bytes "at ") s) (instant_ask (start_of (drop 3 s))) (ask.Bad fault.Request)) g
