-- The claims of specs/Claims.
use Prim.Native.Nat.{ℕ, ◌*◌, ◌≤◌, min}
use mathlib.Core.Path.{◌≡◌, refl, ap, ◌∙◌, subst}
use mathlib.Core.Bool.{Bool, true, false, cond, ◌&&◌}
use native.Mathlib.Nat.{min-eq_left}
use native.Mathlib.Omega.{arith}
use lib.Dec.{leb}
use lib.IntN.{pos, ◌+ℤ◌}
use borrow.Author.Tests.{leb-true}
use Rattle.request_line.specs.Times.{signed}
use Rattle.station_text.specs.Words.{first, second, third, whole_in, micro_of}
use Rattle.station_text.specs.declared.Whole.{Whole}
use Rattle.ephemeris_requests.specs.declared.Grid.{Grid}
use Rattle.ephemeris_requests.specs.declared.Signed.{Signed}
use Rattle.ephemeris_requests.specs.declared.Ask.TheVariants as ask
use Rattle.ephemeris_requests.specs.declared.Fault.TheVariants as fault
use Rattle.ephemeris_requests.specs.Requests.{most_start, most_step, most_count, signed_in, lawful, grid_from, grid_of, time_at}
use Rattle.ephemeris_requests.specs.Claims.{GridTimes}

left_of_lem : (a b : Bool) → (a && b) ≡ true → a ≡ true
left_of_lem true b h = refl
left_of_lem false b h = h

right_of : (a b : Bool) → (a && b) ≡ true → b ≡ true
right_of true b h = h
right_of false b h = cc

-- the bounds of a grid that a line asks for
record Bounds (g : Grid) : Type 0 where
  start : g.start ≤ most_start
  step : g.step ≤ most_step
  count : g.count ≤ most_count

lawful_bounds : (a b c : Bool) (start step count : ℕ)
    → (a && b && c && leb start most_start && leb 1 step && leb step most_step && leb 1 count && leb count most_count) ≡ true
    → (start ≤ most_start) × (step ≤ most_step) × (count ≤ most_count)
lawful_bounds a b c start step count h =
    let h7 = left_of_lem (a && b && c && leb start most_start && leb 1 step && leb step most_step && leb 1 count) (leb count most_count) h in
    let h6 = left_of_lem (a && b && c && leb start most_start && leb 1 step && leb step most_step) (leb 1 count) h7 in
    let h5 = left_of_lem (a && b && c && leb start most_start && leb 1 step) (leb step most_step) h6 in
    let h4 = left_of_lem (a && b && c && leb start most_start) (leb 1 step) h5 in (
      leb-true start most_start (right_of (a && b && c) (leb start most_start) h4),
      leb-true step most_step (right_of (a && b && c && leb start most_start && leb 1 step) (leb step most_step) h6),
      leb-true count most_count (right_of (a && b && c && leb start most_start && leb 1 step && leb step most_step && leb 1 count) (leb count most_count) h),
    )

abbrev made : Signed → Whole → Whole → Grid
made start step count = record { minus = start.minus; start = start.micros.value; step = step.value; count = count.value }

made_bounds : (start : Signed) (step count : Whole) → lawful start.micros step count ≡ true → Bounds (made start step count)
unfolding lawful
made_bounds start step count h =
    let b = lawful_bounds start.micros.good step.good count.good start.micros.value step.value count.value h in
    record { start = b.0; step = b.1; count = b.2 }

bounds_by : (b : Bool) (start : Signed) (step count : Whole) (g : Grid) → lawful start.micros step count ≡ b
    → cond b (ask.Steps (made start step count)) (ask.Bad fault.Grid) ≡ ask.Steps g → Bounds g
bounds_by true start step count g h q = let e : made start step count ≡ g = cc in subst (λ (x : Grid). Bounds x) e (made_bounds start step count h)
bounds_by false start step count g h q = let z : ◌≡◌ {A = ℕ} 0 1 = cc in absurd (omega arith)

bounds_of : (start : Signed) (step count : Whole) (g : Grid) → grid_from start step count ≡ ask.Steps g → Bounds g
unfolding grid_from
bounds_of start step count g e = bounds_by (lawful start.micros step count) start step count g refl e

pub grid_times : GridTimes
unfolding grid_of time_at
grid_times s g i e h =
    let b = bounds_of (signed_in (first s)) (micro_of (second s)) (whole_in (third s)) g e in
    let c = b.count in
    let k : i ≤ most_count = omega arith in
    ap (λ (n : ℕ). signed g.minus n +ℤ pos (min i most_count * min g.step most_step)) (min-eq_left {n = g.start} {m = most_start} b.start)
    ∙ ap (λ (n : ℕ). signed g.minus g.start +ℤ pos (n * min g.step most_step)) (min-eq_left {n = i} {m = most_count} k)
    ∙ ap (λ (n : ℕ). signed g.minus g.start +ℤ pos (i * n)) (min-eq_left {n = g.step} {m = most_step} b.step)
