-- Samples outside the calendar are the last ones: after one of them no time is put to the satellite.
use mathlib.Core.Path.{◌≡◌, refl}
use mathlib.Core.Bool.{false}
use mathlib.Core.List.{[]}
use Prim.Native.Nat.{ℕ, zero, suc, ◌*◌, ◌≤◌}
use native.Mathlib.Omega.{arith}
use native.Mathlib.Nat.{mul-le-mul_right}
use borrow.Author.Tests.{ltb-false, le-ltb}
use Rattle.instant.specs.Calendar.{in_calendar, calendar_end}
use Rattle.windows.specs.Windows.{sample_micros, instants_from, times_of}

pub later : (x y : ℕ) → x ≤ y → in_calendar x ≡ false → in_calendar y ≡ false
unfolding in_calendar
later x y h e = let l : calendar_end ≤ x = ltb-false x calendar_end e in le-ltb y calendar_end (omega arith)

pub rises : (start step i : ℕ) → sample_micros start step i ≤ sample_micros start step (suc i)
rises start step i =
    let h : i * step ≤ suc i * step = mul-le-mul_right step (omega arith) in
    omega arith

pub no_more : (e start step i n : ℕ) → in_calendar (sample_micros start step i) ≡ false → times_of e (instants_from start step i n) ≡ []
no_more e start step i zero h = refl
no_more e start step i (suc n) h = rw h (no_more e start step (suc i) n (later (sample_micros start step i) (sample_micros start step (suc i)) (rises start step i) h))
