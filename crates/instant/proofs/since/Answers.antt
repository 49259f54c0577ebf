use mathlib.Core.Path.{◌≡◌, sym}
use mathlib.Core.Bool.{true, false, ◌&&◌}
use Prim.Native.Nat.{ℕ, ◌<◌}
use native.Mathlib.Omega.{arith}
use lib.IntN.{pos, ◌-ℤ◌}
use mir.Syntax.{w64}
use mir.Val.{SFits, to_z}
use mir.ValLaws.{to_z-of_z, to_z_pos}
use Rattle.instant.specs.Calendar.{in_calendar}
use Rattle.instant.specs.Since.{since_of}
use Rattle.instant.proofs.Calendar.{below, both}
use Rattle.instant.proofs.Difference.{difference_fits}
use Rattle.instant.proofs.since.Tie as tie
use Rattle.instant.proofs.since.Lts as lts
use Rattle.instant.proofs.since.Reads as reads
use Rattle.instant.proofs.since.Goals as goal

abbrev x : (lts.Else1 tie.the-claims reads.Pre reads.Post) → ℕ
x c = c.args.t.0

abbrev e : (lts.Else1 tie.the-claims reads.Pre reads.Post) → ℕ
e c = c.args.epoch.0

-- past the test both instants are inside
inn : (c : (lts.Else1 tie.the-claims reads.Pre reads.Post)) → (in_calendar (x c) && in_calendar (e c)) ≡ true
inn c = simp (sym c.in_calendar-2.ensures, sym c.in_calendar.ensures) (c.if-not-in_calendar.false)

bounds : (c : (lts.Else1 tie.the-claims reads.Pre reads.Post)) → (x c < 3155760000000000) × (e c < 3155760000000000)
bounds c = both (in_calendar (x c)) (in_calendar (e c)) (below (x c)) (below (e c)) (inn c)

-- so they read the same as signed numbers
same : (c : (lts.Else1 tie.the-claims reads.Pre reads.Post)) → to_z w64 (x c) -ℤ to_z w64 (e c) ≡ pos (x c) -ℤ pos (e c)
same c = simp (to_z_pos w64 (x c) (omega (arith, bounds c)), to_z_pos w64 (e c) (omega (arith, bounds c)))

fits : (c : (lts.Else1 tie.the-claims reads.Pre reads.Post)) → SFits w64 (pos (x c) -ℤ pos (e c))
fits c = difference_fits (x c) (e c) (omega (arith, bounds c)) (omega (arith, bounds c))

pub returns-then-not-in_calendar : goal.returns-then-not-in_calendar
unfolding since_of
returns-then-not-in_calendar c =
    let out : (c.in_calendar.result && c.in_calendar-2.result) ≡ false = c.if-not-in_calendar.true in
    simp (sym c.in_calendar-2.ensures, sym c.in_calendar.ensures, out)

pub overflow_cast-result : goal.overflow_cast-result
overflow_cast-result c = record { sfits = omega (arith, bounds c) }

pub overflow_cast-result-2 : goal.overflow_cast-result-2
overflow_cast-result-2 c = record { sfits = omega (arith, bounds c) }

pub overflow_sub-result : goal.overflow_sub-result
overflow_sub-result c = rw (same c) (fits c)

pub returns : goal.returns
unfolding since_of
returns c = simp (same c, to_z-of_z w64 _ (fits c), inn c)
